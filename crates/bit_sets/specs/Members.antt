-- Sets of numbers below a limit: a truth for each.
use Rattle.std.specs.Prelude.{ℕ, zero, suc, ◌||◌, Bool, false, List, [], ◌∷◌}

-- the number is in the set
abbrev pub is_in : List Bool → ℕ → Bool
is_in [] n = false
is_in (b ∷ set) zero = b
is_in (b ∷ set) (suc n) = is_in set n

-- what is in one of them; both have one limit
abbrev pub union : List Bool → List Bool → List Bool
union [] other = []
union (a ∷ set) [] = a ∷ set
union (a ∷ set) (b ∷ other) = (a || b) ∷ union set other
