use Rattle.std.proofs.Common.{◌≡◌, ℕ, nat_eq, take}
use Rattle.indexmap.specs.IndexMap.{get}
use Rattle.register_numbers.specs.FirstPlaces.{first_place}
use Rattle.register_numbers.proofs.places.first_places.Given as goal

abbrev pub invariant-loop-place : goal.invariant-loop-place
invariant-loop-place l = (x : ℕ) → get nat_eq l.places x ≡ first_place (take l.place l.numbers) x
