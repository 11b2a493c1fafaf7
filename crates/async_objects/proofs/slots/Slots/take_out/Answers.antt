use Rattle.std.proofs.Common.{◌≡◌, ◌<◌, ◌+◌, length, refl, ap, subst, ◌∙◌, arith}
use Rattle.async_objects.specs.Objects.{blank, one_if, put}
use Rattle.async_objects.specs.Counts.{put_count}
use Rattle.async_objects.specs.declared.slots.Slot.{Slot}
use Rattle.async_objects.specs.Slots.{place_in, live_in}
use Rattle.async_objects.proofs.SlotLemmas.{rising_set, empty_set, live_set, has_count, one_for}
use Rattle.async_objects.proofs.ViewLemmas.{slot_at, there, object_reads, has_some, put_both}
use Rattle.async_objects.proofs.slots.Slots.take_out.Goals as goal

pub place_of-at-requires-clause-there : goal.place_of-at-requires-clause-there
place_of-at-requires-clause-there c = rw c.as_slice.ensures.value (there c.self.inside.slots.items c.self.inside.made c.self.inside.room c.args.self.now c.self.view_is c.args.o.0 c.requires)

pub overflow_sub-self : goal.overflow_sub-self
overflow_sub-self c =
    let s : Slot = c.index_mut-slot.result.now in
    let at = slot_at c.self.inside.slots.items c.place_of-at.result s (subst (λ xs. c.place_of-at.result < length xs) c.as_slice.ensures.value c.place_of-at.ensures.within) c.index_mut-slot.ensures.value in
    let some : 0 < s.count = has_some c.self.inside.slots.items c.self.inside.made c.self.inside.room c.args.self.now c.self.view_is c.args.o.0 c.place_of-at.result (c.place_of-at.ensures.place ∙ ap (λ xs. place_in xs c.args.o.0) c.as_slice.ensures.value) s at c.requires in
    let t : Slot = record { number = s.number; count = 0; object = blank } in
    let same : live_in _ + one_if (has_count s) ≡ live_in c.self.inside.slots.items + 0 = live_set c.self.inside.slots.items c.place_of-at.result s t at in
    let old : one_if (has_count s) ≡ 1 = one_for s.count some in
    omega (arith, same, old, c.self.invariant.2)

pub invariant_of-self : goal.invariant_of-self
invariant_of-self c =
    let s : Slot = c.index_mut-slot.result.now in
    let at = slot_at c.self.inside.slots.items c.place_of-at.result s (subst (λ xs. c.place_of-at.result < length xs) c.as_slice.ensures.value c.place_of-at.ensures.within) c.index_mut-slot.ensures.value in
    let some : 0 < s.count = has_some c.self.inside.slots.items c.self.inside.made c.self.inside.room c.args.self.now c.self.view_is c.args.o.0 c.place_of-at.result (c.place_of-at.ensures.place ∙ ap (λ xs. place_in xs c.args.o.0) c.as_slice.ensures.value) s at c.requires in
    let t : Slot = record { number = s.number; count = 0; object = c.replace.new.dest } in
    let same : live_in _ + one_if (has_count s) ≡ live_in c.self.inside.slots.items + 0 = live_set c.self.inside.slots.items c.place_of-at.result s t at in
    let old : one_if (has_count s) ≡ 1 = one_for s.count some in (
      rising_set 0 c.self.inside.made c.self.inside.slots.items c.place_of-at.result s t at refl c.self.invariant.0,
      empty_set (λ u. u.object) blank c.self.inside.slots.items c.place_of-at.result t (λ z. c.replace.ensures.after ∙ c.blank-left.ensures) c.self.invariant.1,
      omega (arith, same, old, c.self.invariant.2),
      c.self.invariant.3,
    )

pub returns-clause-object : goal.returns-clause-object
returns-clause-object c =
    let s : Slot = c.index_mut-slot.result.now in
    c.replace.ensures.value ∙ object_reads c.self.inside.slots.items c.self.inside.made c.self.inside.room c.args.self.now c.self.view_is c.args.o.0 c.place_of-at.result (c.place_of-at.ensures.place ∙ ap (λ xs. place_in xs c.args.o.0) c.as_slice.ensures.value) s (slot_at c.self.inside.slots.items c.place_of-at.result s (subst (λ xs. c.place_of-at.result < length xs) c.as_slice.ensures.value c.place_of-at.ensures.within) c.index_mut-slot.ensures.value) c.requires

pub returns-clause-rest : goal.returns-clause-rest
returns-clause-rest c =
    let s : Slot = c.index_mut-slot.result.now in
    put_both c.self.inside.slots.items c.self.inside.made c.self.inside.room c.args.self.now c.self.view_is c.args.o.0 c.place_of-at.result (c.place_of-at.ensures.place ∙ ap (λ xs. place_in xs c.args.o.0) c.as_slice.ensures.value) s (slot_at c.self.inside.slots.items c.place_of-at.result s (subst (λ xs. c.place_of-at.result < length xs) c.as_slice.ensures.value c.place_of-at.ensures.within) c.index_mut-slot.ensures.value) c.requires 0 c.replace.new.dest
    ∙ ap (λ x. record { objects = put c.args.self.now.objects c.args.o x; counts = put_count c.args.self.now.counts c.args.o.0 0; room = c.args.self.now.room }) (c.replace.ensures.after ∙ c.blank-left.ensures)
