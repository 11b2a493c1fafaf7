use Rattle.std.proofs.Common.{◌≡◌, ◌≤◌, ◌+◌, length, ap, arith}
use Rattle.async_objects.specs.declared.object.Object.{Object}
use Rattle.async_objects.specs.Objects.{object_at, put}
use Rattle.async_objects.specs.Sound.{awaiting}
use Rattle.async_objects.proofs.SoundLemmas.{awaiting_at, awaiting_put}
use Rattle.async_objects.proofs.effects.count_down.Goals as goal

pub wake-requires-clause-places : goal.wake-requires-clause-places
wake-requires-clause-places c =
    let most : length (object_at c.args.slots.now.objects c.args.group).awaiters ≤ awaiting c.args.slots.now.objects = awaiting_at c.args.slots.now.objects c.args.group.0 in
    let are : length c.object_mut-object.result.now.awaiters ≡ length (object_at c.args.slots.now.objects c.args.group).awaiters = ap (λ x. length x.awaiters) c.object_mut-object.ensures.value in
    omega (arith, most, are, c.requires.places)

pub returns-then-is_done-clause-places : goal.returns-then-is_done-clause-places
returns-then-is_done-clause-places c =
    let y : Object = c.object_mut-object.result.now in
    let x : Object = record { kind = y.kind; state = y.state; payload = y.payload; awaiters = c.wake.new.awaiters; memberships = y.memberships; members = c.count.new.self } in
    let none : length c.wake.new.awaiters ≡ 0 = ap length c.wake.ensures.awaiters in
    let less : awaiting (put c.args.slots.now.objects c.args.group x) + length (object_at c.args.slots.now.objects c.args.group).awaiters ≡ awaiting c.args.slots.now.objects + length c.wake.new.awaiters = awaiting_put c.args.slots.now.objects c.args.group.0 x (omega (arith, none)) in
    let are : length c.object_mut-object.result.now.awaiters ≡ length (object_at c.args.slots.now.objects c.args.group).awaiters = ap (λ x. length x.awaiters) c.object_mut-object.ensures.value in
    omega (arith, less, are, none, c.wake.ensures.spare)

pub returns-else-is_done-clause-places : goal.returns-else-is_done-clause-places
returns-else-is_done-clause-places c =
    let y : Object = c.object_mut-object.result.now in
    let x : Object = record { kind = y.kind; state = y.state; payload = y.payload; awaiters = y.awaiters; memberships = y.memberships; members = c.count.new.self } in
    let are : length y.awaiters ≡ length (object_at c.args.slots.now.objects c.args.group).awaiters = ap (λ x. length x.awaiters) c.object_mut-object.ensures.value in
    let same : awaiting (put c.args.slots.now.objects c.args.group x) + length (object_at c.args.slots.now.objects c.args.group).awaiters ≡ awaiting c.args.slots.now.objects + length y.awaiters = awaiting_put c.args.slots.now.objects c.args.group.0 x (omega (arith, are)) in
    omega (arith, same, are)
