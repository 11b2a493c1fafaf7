use Rattle.std.proofs.Common.{◌<◌, Some, length, refl, sym, subst, arith}
use Rattle.async_objects.specs.Counts.{count_at}
use Rattle.async_objects.proofs.TableLemmas.{like_keeps}
use Rattle.async_objects.proofs.objects.Objects.store.Goals as goal

pub invariant_of-self : goal.invariant_of-self
invariant_of-self c =
    like_keeps c.self.inside.slots c.self.inside.limit c.self.inside.waiters c.self.inside.places c.self.inside.places (length c.self.inside.spare) (length c.self.inside.spare) c.args.o c.object_mut.result.now (Some c.args.payload) c.object_mut.result.now.awaiters c.self.invariant
    (subst (λ t. 0 < count_at t.counts c.args.o.0) (sym c.self.view_is) c.requires.there) c.object_mut.ensures.value refl (omega arith) c.self.invariant.4
