use Rattle.std.proofs.Common.{◌≡◌, ◌≤◌, ◌++◌, ◌∷◌, [], true, false, length, sym, ap, ◌∙◌, arith}
use Rattle.std.proofs.lemmas.Grind.{common_steps}
use Rattle.async_objects.specs.declared.kinds.Val.TheVariants.{Number}
use Rattle.async_objects.specs.Objects.{object_at, is_group, added}
use Rattle.async_objects.specs.Sound.{awaiting}
use Rattle.task_stack.specs.Local.{operands}
use Rattle.task_stack.specs.Shared.{moved}
use Rattle.step_core.proofs.SetBounds.{add_wakes}
use Rattle.step_core.proofs.SetRows.{add_goes}
use Rattle.step_core.proofs.shared_objects.add.Goals as goal

pub give_added-requires-clause-woken : goal.give_added-requires-clause-woken
give_added-requires-clause-woken c =
    let most : length (added c.in-Some.element c.in-Some-named.group c.args.objects.now.objects).tasks ≤ awaiting c.args.objects.now.objects = add_wakes c.in-Some.element c.in-Some-named.group c.args.objects.now.objects in
    let room : awaiting c.args.objects.now.objects ≤ c.reserve_woken.new.woken.room = grind (arith, common_steps) in
    omega (arith, most, room)

pub returns-in-Ok-clause-row : goal.returns-in-Ok-clause-row
returns-in-Ok-clause-row c =
    let alone : is_group (object_at c.args.objects.now.objects c.in-Some.element).kind ≡ false = grind (arith, common_steps) in
    let grouped : is_group (object_at c.args.objects.now.objects c.in-Some-named.group).kind ≡ true = grind (arith, common_steps) in
    λ l f gone rest t.
    add_goes l f c.args.instr.now (operands c.args.stack.now c.args.instr.now) c.args.objects.now c.give_added.new.objects gone rest c.args.woken.now.items c.give_added.new.woken.items t c.args.stack.now c.give_added.new.self
    c.in-Some.element c.in-Some-named.group c.in-Ok._rank (sym c.in-Some.ensures.value) (sym c.in-Some-named.ensures.value) alone grouped
    c.in-Ok.ensures.added.0 c.in-Ok.ensures.added.1 c.in-Ok.ensures.added.2
    (ap (λ r. r.items) c.in-Ok.ensures.added.3 ∙ ap (λ xs. xs ++ (added c.in-Some.element c.in-Some-named.group c.args.objects.now.objects).tasks) c.reserve_woken.ensures.items)
    (c.in-Ok.ensures.added.4 ∙ ap (λ rs. moved rs (Number c.in-Ok._rank ∷ []) c.args.stack.now) c.as_slice.ensures)
