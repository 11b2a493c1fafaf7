use Rattle.std.proofs.Common.{◌≡◌, ◌≤◌, ◌+◌, ◌*◌, ◌++◌, ◌∷◌, [], length, refl, sym, ap, subst, ◌∙◌, arith, vec_capacity}
use Rattle.async_objects.specs.Objects.{blank, one_if}
use Rattle.async_objects.specs.Counts.{live}
use Rattle.async_objects.specs.declared.slots.Slot.{Slot}
use Rattle.async_objects.specs.Slots.{AreRising, AreBlank, live_in}
use Rattle.async_objects.proofs.ListLemmas.{listed_length, err_always}
use Rattle.async_objects.proofs.SlotLemmas.{rising_push, empty_push, live_push, has_count, one_for}
use Rattle.async_objects.proofs.ViewLemmas.{seen, seen_more, seen_live, swept_slots, swept_seen, few}
use Rattle.async_objects.proofs.slots.Slots.push.Goals as goal

pub invariant_of-self : goal.invariant_of-self
invariant_of-self c =
    let swept = swept_slots c.self.inside.slots.items c.make_place.new.slots.items c.self.inside.made c.make_place.ensures.slots c.self.invariant.0 c.self.invariant.1 in
    let room : 2 * c.self.inside.room ≤ vec_capacity c.self.inside.slots = c.self.invariant.3 in
    (swept.0, swept.1, c.self.invariant.2 ∙ sym swept.2, omega (arith, c.make_place.ensures.capacity, room))

pub returns-in_err-make_place-clause-err : goal.returns-in_err-make_place-clause-err
returns-in_err-make_place-clause-err c =
    let alive : live c.args.self.now.counts ≡ live_in c.self.inside.slots.items = seen_live c.self.inside.slots.items c.self.inside.made c.self.inside.room c.args.self.now c.self.view_is c.self.invariant.0 in
    let room : 2 * c.self.inside.room ≤ vec_capacity c.self.inside.slots = c.self.invariant.3 in
    let kept : c.self.inside.room ≡ c.args.self.now.room = ap (λ k. k.room) c.self.view_is in
    err_always c.from_residual.result (
      swept_seen c.self.inside.slots.items c.make_place.new.slots.items c.self.inside.made c.self.inside.room c.make_place.ensures.slots c.self.invariant.0 c.self.invariant.1 ∙ c.self.view_is,
      omega (arith, c.in_err-make_place.ensures.err, alive, room, kept, c.self.invariant.2),
    )

pub overflow_add-self : goal.overflow_add-self
overflow_add-self c =
    let made : length c.args.self.now.objects ≡ c.self.inside.made = ap (λ k. length k.objects) (sym c.self.view_is) ∙ listed_length c.self.inside.made _ in
    grind (arith, c.requires.made, made)

pub overflow_add-self-2 : goal.overflow_add-self-2
overflow_add-self-2 c =
    let made : length c.args.self.now.objects ≡ c.self.inside.made = ap (λ k. length k.objects) (sym c.self.view_is) ∙ listed_length c.self.inside.made _ in
    let most : 0 + live_in c.self.inside.slots.items ≤ c.self.inside.made = few 0 c.self.inside.made c.self.inside.slots.items c.self.invariant.0 in
    grind (arith, c.requires.made, made, most, c.self.invariant.2)

pub invariant_of-self-2 : goal.invariant_of-self-2
invariant_of-self-2 c =
    let swept = swept_slots c.self.inside.slots.items c.make_place.new.slots.items c.self.inside.made c.make_place.ensures.slots c.self.invariant.0 c.self.invariant.1 in
    let s : Slot = record { number = c.self.inside.made; count = c.args.count; object = c.args.object } in
    let more : live_in (c.make_place.new.slots.items ++ s ∷ []) ≡ live_in c.make_place.new.slots.items + one_if (has_count s) = live_push c.make_place.new.slots.items s in
    let one : one_if (has_count s) ≡ 1 = one_for c.args.count c.requires.count in
    let room : 2 * c.self.inside.room ≤ vec_capacity c.self.inside.slots = c.self.invariant.3 in
    let same : live_in c.make_place.new.slots.items ≡ live_in c.self.inside.slots.items = swept.2 in (
      subst (AreRising 0 (c.self.inside.made + 1)) (sym c.push_reserved.ensures.items) (rising_push 0 c.self.inside.made c.make_place.new.slots.items s refl swept.0),
      subst AreBlank (sym c.push_reserved.ensures.items) (empty_push (λ t. t.object) blank c.make_place.new.slots.items s (λ z. absurd (omega (arith, z, c.requires.count))) swept.1),
      rw c.push_reserved.ensures.items (omega (arith, more, one, same, c.self.invariant.2)),
      omega (arith, c.make_place.ensures.capacity, room, c.push_reserved.ensures.capacity),
    )

pub returns-clause-ok : goal.returns-clause-ok
returns-clause-ok c =
    let swept = swept_slots c.self.inside.slots.items c.make_place.new.slots.items c.self.inside.made c.make_place.ensures.slots c.self.invariant.0 c.self.invariant.1 in
    ap (λ xs. seen xs (c.self.inside.made + 1) c.self.inside.room) c.push_reserved.ensures.items
    ∙ seen_more c.make_place.new.slots.items c.self.inside.made c.self.inside.room c.args.self.now (swept_seen c.self.inside.slots.items c.make_place.new.slots.items c.self.inside.made c.self.inside.room c.make_place.ensures.slots c.self.invariant.0 c.self.invariant.1 ∙ c.self.view_is) swept.0 c.args.count c.args.object
