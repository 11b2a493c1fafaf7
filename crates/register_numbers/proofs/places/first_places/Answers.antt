-- The map holds the place of one number more.
use Rattle.std.proofs.Common.{◌≡◌, ◌<◌, ℕ, cond, nat_eq, take, length, get_or, Option, Some, true, false, sym, ap, ◌∙◌}
use Rattle.std.specs.Option.{is_some}
use Rattle.indexmap.specs.IndexMap.{get}
use Rattle.register_numbers.specs.FirstPlaces.{first_place}
use Rattle.register_numbers.proofs.PlaceLemmas.{number-new, number-old}
use Rattle.register_numbers.proofs.places.first_places.Goals as goal
use Rattle.register_numbers.proofs.places.first_places.Goals.{then-not-contains_key+in_ok-insert, else-not-contains_key}

pub loop-place-preserved : goal.loop-place-preserved
loop-place-preserved c = λ x.
    let numbers = c.args.numbers.now in
    let place = c.loop-place.place in
    let key : ℕ = get_or numbers place 0 in
    let less : place < length numbers = c.loop-place-test.true in
    elim c.if-not-contains_key.branch [
      | then-not-contains_key+in_ok-insert w ↦
          (let fresh : is_some (first_place (take place numbers) key) ≡ false = ap is_some (sym (c.loop-place.invariant key)) ∙ sym c.contains_key.ensures ∙ w.if-not-contains_key.true in
          ap (λ m. get nat_eq m x) w.places-is ∙ w.in_ok-insert.ensures.updates.0 x
          ∙ ap (λ (o : Option ℕ). cond (nat_eq key x) (Some place) o) (c.loop-place.invariant x)
          ∙ number-new numbers place 0 less x fresh)
      | else-not-contains_key w ↦
          (let there : is_some (first_place (take place numbers) key) ≡ true = ap is_some (sym (c.loop-place.invariant key)) ∙ sym c.contains_key.ensures ∙ w.if-not-contains_key.false in
          ap (λ m. get nat_eq m x) w.places-is ∙ c.loop-place.invariant x ∙ number-old numbers place 0 less x there)
    ]
