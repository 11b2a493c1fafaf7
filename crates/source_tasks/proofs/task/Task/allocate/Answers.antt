-- A buffer of the sizes is asked for.
use Rattle.std.proofs.Common.{rules}
use Rattle.ir_forms.specs.declared.ops.Op.{out-Op}
use Rattle.source_tasks.proofs.Posed.{posed_alloc}
use Rattle.source_tasks.proofs.task.Task.allocate.Goals as goal

pub returns-in-Some : goal.returns-in-Some
returns-in-Some c =
    posed_alloc (out-Op c.args.op.now) c.args.self.now c.dims_of.result.now c.in_ok-given.given c.in_ok-sizes.sizes c.in-Some.dims c.in-Some.cells (search rules) (search rules) (search rules) (search rules) (search rules)
