use Rattle.std.proofs.Common.{◌≡◌, ℕ, nat_eq, take}
use Rattle.indexmap.specs.IndexMap.{get}
use Rattle.value_numbers.specs.Numbers.{as_numbers, first_place}
use Rattle.value_numbers.proofs.places.first_places.Given as goal

abbrev pub invariant-loop-place : goal.invariant-loop-place
invariant-loop-place l = (x : ℕ) → get nat_eq l.places x ≡ first_place (as_numbers (take l.place l.values)) x
