-- Values by their numbers, in leaves of 64.
use Rattle.std.specs.Prelude.{ℕ, zero, suc, ◌/◌, ◌%◌, List, [], ◌∷◌, slice_get}
use Rattle.source_meaning.specs.declared.values.Val.{Val}
use Rattle.source_meaning.specs.Values.{named, or_else}

-- the leaf at a place; one that is missing is empty
abbrev pub leaf_at : List (List Val) → ℕ → List Val
leaf_at leaves k = or_else [] (slice_get leaves k)

-- the value of a number
abbrev pub kept : List (List Val) → ℕ → Val
kept leaves n = named (leaf_at leaves (n / 64)) (n % 64)

-- as many values, from a number on
abbrev pub listed_from : (ℕ → Val) → ℕ → ℕ → List Val
listed_from f n zero = []
listed_from f n (suc many) = f n ∷ listed_from f (suc n) many

-- as many values, from the first on
abbrev pub listed : ℕ → List (List Val) → List Val
listed many leaves = listed_from (kept leaves) 0 many
