use Rattle.std.proofs.Common.{◌<◌, ◌++◌, ◌∷◌, [], length, sym, ap, subst, ◌∙◌, arith}
use Rattle.async_objects.specs.Counts.{live, first_count}
use Rattle.async_objects.specs.Slots.{Kept}
use Rattle.async_objects.specs.Tables.{Table, with_created}
use Rattle.async_objects.proofs.SetLemmas.{ok_holds}
use Rattle.async_objects.proofs.TableLemmas.{create_keeps, first_some, created_seen}
use Rattle.async_objects.proofs.objects.Objects.create.Goals as goal

pub invariant_of-self-2 : goal.invariant_of-self-2
invariant_of-self-2 c =
    create_keeps c.self.inside.slots c.push.new.self c.self.inside.limit c.self.inside.waiters c.self.inside.places (length c.self.inside.spare) c.args.kind c.first_count.result c.self.invariant
    (first_some c.args.kind c.first_count.result c.first_count.ensures) (omega (arith, c.live-live.ensures, c.if-live-self.false))
    (ok_holds c.push.result (sym c.is_err.ensures.value ∙ c.if-is_err.false) c.push.ensures.ok ∙ ap (λ x. record { objects = c.self.inside.slots.objects ++ x ∷ []; counts = c.self.inside.slots.counts ++ c.first_count.result ∷ []; room = c.self.inside.slots.room }) c.new-object.ensures)

pub returns-clause-created : goal.returns-clause-created
returns-clause-created c =
    let k : Kept = c.self.inside.slots in (
      c.made.ensures ∙ ap (λ t. length t.objects) c.self.view_is,
      subst (λ t. live t.counts < t.limit) c.self.view_is (omega (arith, c.live-live.ensures, c.if-live-self.false)),
      ap (λ j. let t : Table = record { limit = c.self.inside.limit; room = j.room; waiters = c.self.inside.waiters; objects = j.objects; counts = j.counts } in t)
          (ok_holds c.push.result (sym c.is_err.ensures.value ∙ c.if-is_err.false) c.push.ensures.ok
          ∙ (λ i. record { objects = k.objects ++ c.new-object.ensures i ∷ []; counts = created_seen k.counts (length k.objects) (first_count c.args.kind) c.first_count.result c.self.invariant.0.1 c.first_count.ensures i; room = k.room }))
          ∙ ap (with_created c.args.kind) c.self.view_is,
    )
