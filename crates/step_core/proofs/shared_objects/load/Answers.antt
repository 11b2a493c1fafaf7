use Rattle.std.proofs.Common.{refl, sym}
use Rattle.task_stack.specs.Local.{operands}
use Rattle.step_core.proofs.RowLemmas.{given}
use Rattle.step_core.proofs.ObjectRows.{loads_goes}
use Rattle.step_core.proofs.shared_objects.load.Goals as goal

pub returns-in-Some-load-clause-row : goal.returns-in-Some-load-clause-row
returns-in-Some-load-clause-row c =
    given c.give.result _ _ c.give.ensures.ok (λ gives l f rest w t.
    loads_goes l f c.args.instr.now (operands c.args.stack.now c.args.instr.now) c.args.objects.now c.args.objects.now rest w t c.args.stack.now c.give.new.stack c.in-Some.o c.in-Some-load.val
    (sym c.in-Some.ensures.value) (sym c.in-Some-load.ensures) refl gives)
