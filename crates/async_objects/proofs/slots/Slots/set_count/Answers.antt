use Rattle.std.proofs.Common.{◌≡◌, ◌<◌, ◌+◌, length, refl, ap, subst, ◌∙◌, arith}
use Rattle.async_objects.specs.Objects.{blank, one_if}
use Rattle.async_objects.specs.declared.slots.Slot.{Slot}
use Rattle.async_objects.specs.Slots.{place_in, live_in}
use Rattle.async_objects.proofs.SlotLemmas.{rising_set, empty_set, live_set, has_count, one_for}
use Rattle.async_objects.proofs.ViewLemmas.{slot_at, there, has_some, put_number}
use Rattle.async_objects.proofs.slots.Slots.set_count.Goals as goal

pub place_of-at-requires-clause-there : goal.place_of-at-requires-clause-there
place_of-at-requires-clause-there c = rw c.as_slice.ensures.value (there c.self.inside.slots.items c.self.inside.made c.self.inside.room c.args.self.now c.self.view_is c.args.o.0 c.requires.there)

pub invariant_of-self : goal.invariant_of-self
invariant_of-self c =
    let s : Slot = c.index_mut.result.now in
    let at = slot_at c.self.inside.slots.items c.place_of-at.result s (subst (λ xs. c.place_of-at.result < length xs) c.as_slice.ensures.value c.place_of-at.ensures.within) c.index_mut.ensures.value in
    let some : 0 < s.count = has_some c.self.inside.slots.items c.self.inside.made c.self.inside.room c.args.self.now c.self.view_is c.args.o.0 c.place_of-at.result (c.place_of-at.ensures.place ∙ ap (λ xs. place_in xs c.args.o.0) c.as_slice.ensures.value) s at c.requires.there in
    let t : Slot = record { number = s.number; count = c.args.count; object = s.object } in
    let same : live_in _ + one_if (has_count s) ≡ live_in c.self.inside.slots.items + one_if (has_count t) = live_set c.self.inside.slots.items c.place_of-at.result s t at in
    let old : one_if (has_count s) ≡ 1 = one_for s.count some in
    let new : one_if (has_count t) ≡ 1 = one_for c.args.count c.requires.stays in (
      rising_set 0 c.self.inside.made c.self.inside.slots.items c.place_of-at.result s t at refl c.self.invariant.0,
      empty_set (λ u. u.object) blank c.self.inside.slots.items c.place_of-at.result t (λ z. absurd (omega (arith, z, c.requires.stays))) c.self.invariant.1,
      omega (arith, same, old, new, c.self.invariant.2),
      c.self.invariant.3,
    )

pub returns : goal.returns
returns c =
    let s : Slot = c.index_mut.result.now in
    put_number c.self.inside.slots.items c.self.inside.made c.self.inside.room c.args.self.now c.self.view_is c.args.o.0 c.place_of-at.result (c.place_of-at.ensures.place ∙ ap (λ xs. place_in xs c.args.o.0) c.as_slice.ensures.value) s (slot_at c.self.inside.slots.items c.place_of-at.result s (subst (λ xs. c.place_of-at.result < length xs) c.as_slice.ensures.value c.place_of-at.ensures.within) c.index_mut.ensures.value) c.requires.there c.args.count
