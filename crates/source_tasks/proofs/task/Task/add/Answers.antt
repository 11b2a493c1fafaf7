-- The element joins the group.
use Rattle.std.proofs.Common.{rules}
use Rattle.ir_forms.specs.declared.ops.Op.{out-Op}
use Rattle.source_tasks.proofs.Posed.{posed_add}
use Rattle.source_tasks.proofs.task.Task.add.Goals as goal

pub returns-in_ok-group-in-Some : goal.returns-in_ok-group-in-Some
returns-in_ok-group-in-Some c =
    posed_add c.args.facts.now (out-Op c.args.op.now) c.args.self.now c.in_ok-group-in-Some.group c.in-Some.element c.is_used-used.result (search rules) (search rules) (search rules)
