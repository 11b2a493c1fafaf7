use Rattle.std.proofs.Common.{◌≡◌, ◌<◌, length, ◌+◌, ◌-◌, ◌/◌, refl, ap, arith}
use Rattle.async_objects.specs.declared.slots.Slot.{Slot}
use Rattle.std.proofs.lemmas.Option.{slice_get_read}
use Rattle.async_objects.proofs.SlotLemmas.{search_low, search_high}
use Rattle.async_objects.proofs.slots.search.Goals as goal

pub loop-low-preserved-then-slots-middle : goal.loop-low-preserved-then-slots-middle
loop-low-preserved-then-slots-middle c =
    let within : c.loop-low.low + (c.loop-low.high - c.loop-low.low) / 2 < length c.args.slots.now = grind (arith, c.loop-low-test.true, c.loop-low.invariant.1) in
    (λ there. (search_low 0 c.args.made c.args.slots.now _ c.args.number c.index-slots-middle.result c.requires.rising there (slice_get_read c.args.slots.now _ _ _ refl within c.index-slots-middle.is) (let number : _ ≡ _ = ap (λ (s : Slot). s.number) c.index-slots-middle.is in omega (arith, number, c.if-slots-middle.true)), (c.loop-low.invariant.0 there).1), c.loop-low.invariant.1, grind (arith, c.loop-low-test.true))

pub loop-low-preserved : goal.loop-low-preserved
loop-low-preserved c =
    let within : c.loop-low.low + (c.loop-low.high - c.loop-low.low) / 2 < length c.args.slots.now = grind (arith, c.loop-low-test.true, c.loop-low.invariant.1) in
    (λ there. ((c.loop-low.invariant.0 there).0, search_high 0 c.args.made c.args.slots.now _ c.args.number c.index-slots-middle.result c.requires.rising there (slice_get_read c.args.slots.now _ _ _ refl within c.index-slots-middle.is) (let number : _ ≡ _ = ap (λ (s : Slot). s.number) c.index-slots-middle.is in omega (arith, number, c.if-slots-middle.false))), omega (arith, within), grind (arith, c.loop-low-test.true))
