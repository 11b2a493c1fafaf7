use Rattle.std.proofs.Common.{◌<◌, ◌+◌, length, sym, subst, arith}
use Rattle.async_objects.specs.Counts.{count_at}
use Rattle.async_objects.proofs.TableLemmas.{Keeps, raise_keeps}
use Rattle.async_objects.proofs.objects.Objects.add_ref.Goals as goal

pub invariant_of-self : goal.invariant_of-self
invariant_of-self c =
    subst (λ k. Keeps k c.self.inside.limit c.self.inside.waiters c.self.inside.places (length c.self.inside.spare)) (sym c.set_count.ensures)
    (raise_keeps c.self.inside.slots c.self.inside.limit c.self.inside.waiters c.self.inside.places (length c.self.inside.spare) c.args.o (c.count-count.result + c.args.n) c.self.invariant
    (subst (λ t. 0 < count_at t.counts c.args.o.0) (sym c.self.view_is) c.requires.there) (omega (arith, c.count-count.ensures)))
