-- Numbers in order, each once.
use Rattle.std.specs.Prelude.{ℕ, suc, ◌==◌, nat_lt, if◌then◌else◌, Bool, false, List, [], ◌∷◌, Option, Some, None}

abbrev pub with_number : ℕ → List ℕ → List ℕ
with_number n [] = n ∷ []
with_number n (m ∷ ms) = if nat_lt m n then m ∷ with_number n ms else (if m == n then m ∷ ms else n ∷ m ∷ ms)

-- how many numbers of an ordered list come before this one
abbrev pub place : ℕ → List ℕ → ℕ
place n [] = 0
place n (m ∷ ms) = if nat_lt m n then suc (place n ms) else 0

abbrev pub is_number : ℕ → Option ℕ → Bool
is_number n None = false
is_number n (Some m) = m == n
