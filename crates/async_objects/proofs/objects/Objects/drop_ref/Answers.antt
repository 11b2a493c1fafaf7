use Rattle.std.proofs.Common.{length, sym, subst}
use Rattle.async_objects.specs.Counts.{count_at}
use Rattle.async_objects.specs.Objects.{object_at}
use Rattle.async_objects.specs.Tables.{CanDrop}
use Rattle.async_objects.proofs.TableLemmas.{lower_keeps}
use Rattle.async_objects.proofs.objects.Objects.drop_ref.Goals as goal

pub invariant_of-self : goal.invariant_of-self
invariant_of-self c =
    lower_keeps c.self.inside.slots c.lower.new.slots c.self.inside.limit c.self.inside.waiters c.self.inside.places (length c.self.inside.spare) (length c.lower.new.spare) c.args.o c.args.n c.self.invariant
    (subst (λ t. CanDrop c.args.n (count_at t.counts c.args.o.0) (object_at t.objects c.args.o)) (sym c.self.view_is) c.requires) c.lower.ensures.slots c.lower.ensures.places
