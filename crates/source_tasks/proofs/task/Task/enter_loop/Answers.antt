-- The loop of these dimensions is entered.
use Rattle.std.proofs.Common.{rules}
use Rattle.ir_forms.specs.declared.ops.Op.{out-Op}
use Rattle.source_meaning.specs.Rows.{spans_of}
use Rattle.source_meaning.specs.Steps.{operands, numbers, group}
use Rattle.source_tasks.proofs.Posed.{posed_enter}
use Rattle.source_tasks.proofs.task.Task.enter_loop.Goals as goal

pub returns : goal.returns
returns c =
    posed_enter c.args.facts.now (out-Op c.args.op.now) c.args.self.now c.join_next.new.self c.in-Some.spans c.in-Some-total_of.total c.entered.inside.split c.in_ok-entered.entered
    (spans_of (numbers (group (out-Op c.args.op.now) (operands c.args.self.now (out-Op c.args.op.now)) 0)) (numbers (group (out-Op c.args.op.now) (operands c.args.self.now (out-Op c.args.op.now)) 1)) (numbers (group (out-Op c.args.op.now) (operands c.args.self.now (out-Op c.args.op.now)) 2)))
    (search rules) (search rules) (search rules) (search rules) (search rules)
