use Rattle.std.proofs.Common.{◌≡◌, ◌≤◌, ◌+◌, length, ap, arith}
use Rattle.async_objects.specs.Objects.{blank, object_at, put}
use Rattle.async_objects.specs.Sound.{awaiting}
use Rattle.async_objects.proofs.SoundLemmas.{awaiting_at, awaiting_put}
use Rattle.async_objects.proofs.effects.lower.Goals as goal

pub give_back-requires : goal.give_back-requires
give_back-requires c =
    let most : length (object_at c.args.slots.now.objects c.args.o).awaiters ≤ awaiting c.args.slots.now.objects = awaiting_at c.args.slots.now.objects c.args.o.0 in
    let are : length c.take_out-object.result.awaiters ≡ length (object_at c.args.slots.now.objects c.args.o).awaiters = ap (λ x. length x.awaiters) c.take_out-object.ensures.object in
    omega (arith, most, are, c.requires.places)

pub returns-clause-places : goal.returns-clause-places
returns-clause-places c =
    let less : awaiting (put c.args.slots.now.objects c.args.o blank) + length (object_at c.args.slots.now.objects c.args.o).awaiters ≡ awaiting c.args.slots.now.objects + 0 = awaiting_put c.args.slots.now.objects c.args.o.0 blank (omega arith) in
    let are : length c.take_out-object.result.awaiters ≡ length (object_at c.args.slots.now.objects c.args.o).awaiters = ap (λ x. length x.awaiters) c.take_out-object.ensures.object in
    let rest : awaiting c.take_out-object.new.self.objects ≡ awaiting (put c.args.slots.now.objects c.args.o blank) = ap (λ k. awaiting k.objects) c.take_out-object.ensures.rest in
    omega (arith, less, are, rest, c.give_back.ensures.spare)
