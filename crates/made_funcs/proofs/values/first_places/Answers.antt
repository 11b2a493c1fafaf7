-- The map holds the place of one value more.
use Rattle.std.proofs.Common.{◌≡◌, ℕ, cond, nat_eq, take, Option, Some, true, false, sym, ap, ◌∙◌}
use Rattle.std.specs.Option.{is_some}
use Rattle.indexmap.specs.IndexMap.{get}
use Rattle.made_funcs.specs.Places.{first_place}
use Rattle.made_funcs.proofs.PlaceLemmas.{value_new, value_old}
use Rattle.made_funcs.proofs.values.first_places.Goals as goal
use Rattle.made_funcs.proofs.values.first_places.Goals.{then-not-contains_key+in_ok-insert, else-not-contains_key}

pub loop-place-preserved : goal.loop-place-preserved
loop-place-preserved c = λ n.
    let values = c.args.values.now in
    let place = c.loop-place.place in
    let value = c.index-values-place.result in
    elim c.if-not-contains_key.branch [
      | then-not-contains_key+in_ok-insert w ↦
          (let fresh : is_some (first_place (take place values) value.0.0) ≡ false = ap is_some (sym (c.loop-place.invariant value.0.0)) ∙ sym c.contains_key.ensures ∙ w.if-not-contains_key.true in
          ap (λ m. get nat_eq m n) w.places-is ∙ w.in_ok-insert.ensures.updates.0 n
          ∙ ap (λ (o : Option ℕ). cond (nat_eq value.0.0 n) (Some place) o) (c.loop-place.invariant n)
          ∙ value_new values place value c.loop-place-test.true c.index-values-place.is n fresh)
      | else-not-contains_key w ↦
          (let there : is_some (first_place (take place values) value.0.0) ≡ true = ap is_some (sym (c.loop-place.invariant value.0.0)) ∙ sym c.contains_key.ensures ∙ w.if-not-contains_key.false in
          ap (λ m. get nat_eq m n) w.places-is ∙ c.loop-place.invariant n
          ∙ value_old values place value c.loop-place-test.true c.index-values-place.is n there)
    ]
