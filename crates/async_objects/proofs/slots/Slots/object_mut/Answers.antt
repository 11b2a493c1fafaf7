use Rattle.std.proofs.Common.{◌≡◌, ◌<◌, ◌+◌, length, refl, ap, subst, ◌∙◌, arith}
use Rattle.async_objects.specs.Objects.{blank, one_if}
use Rattle.async_objects.specs.declared.slots.Slot.{Slot}
use Rattle.async_objects.specs.Slots.{place_in, live_in}
use Rattle.async_objects.proofs.SlotLemmas.{rising_set, empty_set, live_set, has_count}
use Rattle.async_objects.proofs.ViewLemmas.{slot_at, there, object_reads, has_some, put_object}
use Rattle.async_objects.proofs.slots.Slots.object_mut.Goals as goal

pub place_of-at-requires-clause-there : goal.place_of-at-requires-clause-there
place_of-at-requires-clause-there c = rw c.as_slice.ensures.value (there c.self.inside.slots.items c.self.inside.made c.self.inside.room c.args.self.now c.self.view_is c.args.o.0 c.requires)

pub invariant_of-self-lent : goal.invariant_of-self-lent
invariant_of-self-lent c w =
    let s : Slot = c.index_mut-slot.result.now in
    let at = slot_at c.self.inside.slots.items c.place_of-at.result s (subst (λ xs. c.place_of-at.result < length xs) c.as_slice.ensures.value c.place_of-at.ensures.within) c.index_mut-slot.ensures.value in
    let some : 0 < s.count = has_some c.self.inside.slots.items c.self.inside.made c.self.inside.room c.args.self.now c.self.view_is c.args.o.0 c.place_of-at.result (c.place_of-at.ensures.place ∙ ap (λ xs. place_in xs c.args.o.0) c.as_slice.ensures.value) s at c.requires in
    let t : Slot = record { number = s.number; count = s.count; object = w } in
    let same : live_in _ + one_if (has_count s) ≡ live_in c.self.inside.slots.items + one_if (has_count s) = live_set c.self.inside.slots.items c.place_of-at.result s t at in (
      rising_set 0 c.self.inside.made c.self.inside.slots.items c.place_of-at.result s t at refl c.self.invariant.0,
      empty_set (λ u. u.object) blank c.self.inside.slots.items c.place_of-at.result t (λ z. absurd (omega (arith, z, some))) c.self.invariant.1,
      omega (arith, same, c.self.invariant.2),
      c.self.invariant.3,
    )

pub returns : goal.returns
returns c =
    let s : Slot = c.index_mut-slot.result.now in
    let at = slot_at c.self.inside.slots.items c.place_of-at.result s (subst (λ xs. c.place_of-at.result < length xs) c.as_slice.ensures.value c.place_of-at.ensures.within) c.index_mut-slot.ensures.value in
    ((refl, λ w. put_object c.self.inside.slots.items c.self.inside.made c.self.inside.room c.args.self.now c.self.view_is c.args.o.0 c.place_of-at.result (c.place_of-at.ensures.place ∙ ap (λ xs. place_in xs c.args.o.0) c.as_slice.ensures.value) s at c.requires w), record { writes_back = tt; value = object_reads c.self.inside.slots.items c.self.inside.made c.self.inside.room c.args.self.now c.self.view_is c.args.o.0 c.place_of-at.result (c.place_of-at.ensures.place ∙ ap (λ xs. place_in xs c.args.o.0) c.as_slice.ensures.value) s at c.requires })
