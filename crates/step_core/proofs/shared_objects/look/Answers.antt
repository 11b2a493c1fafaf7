use Rattle.std.proofs.Common.{◌≡◌, ◌∷◌, [], true, refl, sym, ap, ◌∙◌, arith}
use Rattle.std.proofs.lemmas.Grind.{common_steps}
use Rattle.async_objects.specs.declared.kinds.Val.TheVariants.{Number}
use Rattle.async_objects.specs.Objects.{object_at, is_done}
use Rattle.task_stack.specs.Local.{operands}
use Rattle.task_stack.specs.Shared.{moved}
use Rattle.step_core.proofs.RowLemmas.{given}
use Rattle.step_core.proofs.ObjectRows.{looks_goes}
use Rattle.step_core.proofs.shared_objects.look.Goals as goal

pub returns-clause-row : goal.returns-clause-row
returns-clause-row c =
    let done : is_done (object_at c.args.objects.now.objects c.in-Some.o) ≡ true = grind (arith, common_steps) in
    given c.give.result _ _ c.give.ensures.ok (λ gives l f rest w t.
    looks_goes l f c.args.instr.now (operands c.args.stack.now c.args.instr.now) c.args.objects.now c.args.objects.now rest w t c.args.stack.now c.give.new.stack c.in-Some.o
    (sym c.in-Some.ensures.value) done refl (gives ∙ ap (λ n. moved c.args.instr.now.results (Number n ∷ []) c.args.stack.now) c.error_bit.ensures))
