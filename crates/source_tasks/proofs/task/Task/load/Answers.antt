-- The cell that was found is read.
use Rattle.std.proofs.Common.{rules}
use Rattle.ir_forms.specs.declared.ops.Op.{out-Op}
use Rattle.source_tasks.proofs.Posed.{posed_read}
use Rattle.source_tasks.proofs.task.Task.load.Goals as goal

pub returns-in_ok-buffer-in-Some : goal.returns-in_ok-buffer-in-Some
returns-in_ok-buffer-in-Some c =
    posed_read (out-Op c.args.op.now) c.args.self.now c.in_ok-buffer-in-Some.buffer c.in-Some.cell c.dims.result.now c.back.result.now (search rules) (search rules) (search rules) (search rules)
