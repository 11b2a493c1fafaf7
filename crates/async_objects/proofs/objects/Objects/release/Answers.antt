use Rattle.std.proofs.Common.{◌≡◌, ◌<◌, ◌≤◌, ◌+◌, length, sym, ap, subst, ◌∙◌, arith}
use Rattle.async_objects.specs.Counts.{count_at}
use Rattle.async_objects.specs.Objects.{object_at}
use Rattle.async_objects.specs.Sound.{awaiting}
use Rattle.async_objects.specs.Tables.{CanRelease}
use Rattle.async_objects.proofs.SoundLemmas.{awaiting_at}
use Rattle.async_objects.proofs.TableLemmas.{gone_keeps}
use Rattle.async_objects.proofs.objects.Objects.release.Goals as goal

pub give_back-requires : goal.give_back-requires
give_back-requires c =
    let most : length (object_at c.self.inside.slots.objects c.args.o).awaiters ≤ awaiting c.self.inside.slots.objects = awaiting_at c.self.inside.slots.objects c.args.o.0 in
    let are : length c.take_out-object.result.awaiters ≡ length (object_at c.self.inside.slots.objects c.args.o).awaiters = ap (λ x. length x.awaiters) c.take_out-object.ensures.object in
    omega (arith, most, are, c.self.invariant.2, c.self.invariant.4)

pub invariant_of-self : goal.invariant_of-self
invariant_of-self c =
    gone_keeps c.self.inside.slots c.take_out-object.new.self c.self.inside.limit c.self.inside.waiters c.self.inside.places (length c.self.inside.spare) (length c.give_back.new.spare) c.args.o c.self.invariant
    (subst (λ t. 0 < count_at t.counts c.args.o.0) (sym c.self.view_is) c.requires.there) (subst (λ t. CanRelease (object_at t.objects c.args.o)) (sym c.self.view_is) c.requires.free)
    c.take_out-object.ensures.rest (c.give_back.ensures.spare ∙ ap (λ x. length c.self.inside.spare + length x.awaiters) c.take_out-object.ensures.object)
