use Rattle.std.proofs.Common.{◌≡◌, ◌≤◌, ◌+◌, length, ap, arith}
use Rattle.async_objects.specs.declared.object.Object.{Object}
use Rattle.async_objects.specs.Objects.{object_at, put}
use Rattle.async_objects.specs.Sound.{awaiting}
use Rattle.async_objects.proofs.SoundLemmas.{awaiting_at, awaiting_put}
use Rattle.async_objects.proofs.effects.set_open.Goals as goal

pub wake-requires-clause-places : goal.wake-requires-clause-places
wake-requires-clause-places c =
    let most : length (object_at c.args.slots.now.objects c.args.o).awaiters ≤ awaiting c.args.slots.now.objects = awaiting_at c.args.slots.now.objects c.args.o.0 in
    let are : length c.object_mut-object.result.now.awaiters ≡ length (object_at c.args.slots.now.objects c.args.o).awaiters = ap (λ x. length x.awaiters) c.object_mut-object.ensures.value in
    omega (arith, most, are, c.requires.places)

pub returns-clause-places : goal.returns-clause-places
returns-clause-places c =
    let y : Object = c.object_mut-object.result.now in
    let x : Object = record { kind = y.kind; state = c.args.state; payload = y.payload; awaiters = c.wake.new.awaiters; memberships = c.replace.new.dest; members = y.members } in
    let none : length c.wake.new.awaiters ≡ 0 = ap length c.wake.ensures.awaiters in
    let less : awaiting (put c.args.slots.now.objects c.args.o x) + length (object_at c.args.slots.now.objects c.args.o).awaiters ≡ awaiting c.args.slots.now.objects + length c.wake.new.awaiters = awaiting_put c.args.slots.now.objects c.args.o.0 x (omega (arith, none)) in
    let are : length c.object_mut-object.result.now.awaiters ≡ length (object_at c.args.slots.now.objects c.args.o).awaiters = ap (λ x. length x.awaiters) c.object_mut-object.ensures.value in
    omega (arith, less, are, none, c.wake.ensures.spare)
