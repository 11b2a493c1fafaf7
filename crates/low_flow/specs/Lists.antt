-- Lists of numbers, and lists of these.
use Rattle.std.specs.Prelude.{◌≡◌, ◌<◌, ℕ, zero, suc, ◌+◌, ◌==◌, nat_lt, if◌then◌else◌, ◌||◌, Bool, false, List, [], ◌∷◌, ◌++◌, length, slice_set}

-- the number stands in the list
abbrev pub has : ℕ → List ℕ → Bool
has x [] = false
has x (y ∷ ys) = (x == y) || has x ys

-- the k-th list; one that is missing is empty
abbrev pub list_at : List (List ℕ) → ℕ → List ℕ
list_at [] k = []
list_at (xs ∷ lists) zero = xs
list_at (xs ∷ lists) (suc k) = list_at lists k

-- the x-th list of the second ones holds the places of the first ones that hold x
pub record IsInverse (lists : List (List ℕ)) (len : ℕ) (inverse : List (List ℕ)) : Type 0 where
  pub each : length inverse ≡ len
  pub holds : (x p : ℕ) → x < len → has p (list_at inverse x) ≡ has x (list_at lists p)

-- ---- the inverse, list by list

abbrev pub is_last : ℕ → List ℕ → Bool
is_last p [] = false
is_last p (x ∷ []) = x == p
is_last p (x ∷ y ∷ xs) = is_last p (y ∷ xs)

-- a place that was the last one added isn't added once more
abbrev pub with_last : ℕ → List ℕ → List ℕ
with_last p xs = if is_last p xs then xs else xs ++ p ∷ []

abbrev pub with_place : ℕ → ℕ → List (List ℕ) → List (List ℕ)
with_place p x inverse = if nat_lt x (length inverse) then slice_set inverse x (with_last p (list_at inverse x)) else inverse

abbrev pub with_places : ℕ → List ℕ → List (List ℕ) → List (List ℕ)
with_places p [] inverse = inverse
with_places p (x ∷ xs) inverse = with_places p xs (with_place p x inverse)

abbrev pub with_lists : ℕ → List (List ℕ) → List (List ℕ) → List (List ℕ)
with_lists p [] inverse = inverse
with_lists p (xs ∷ lists) inverse = with_lists (p + 1) lists (with_places p xs inverse)
