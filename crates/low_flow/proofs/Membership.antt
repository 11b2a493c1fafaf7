-- Numbers in lists, and lists at places.
use Rattle.std.proofs.Common.{◌≡◌, ◌⊎◌, inl, inr, ℕ, zero, suc, ◌<◌, ◌==◌, ◌||◌, Bool, true, false, List, [], ◌∷◌, ◌++◌, length, replicate, get_or, ◌≤◌, Some, None, refl, sym, ap, ◌∙◌, arith}
use Rattle.std.specs.Prelude.{slice_get, slice_set}
use Rattle.std.proofs.lemmas.Bool.Decides.{eqb_tells, nat_tests}
use Rattle.low_flow.specs.Lists.{has, list_at}

pub or_splits : (a b : Bool) → (a || b) ≡ true → (a ≡ true) ⊎ (b ≡ true)
or_splits true b is = inl refl
or_splits false b is = inr is

pub or_left : (a b : Bool) → a ≡ true → (a || b) ≡ true
or_left true b is = refl
or_left false b is = cc

pub or_right : (a b : Bool) → b ≡ true → (a || b) ≡ true
or_right true b is = refl
or_right false b is = is

pub or_none : (a b : Bool) → a ≡ false → b ≡ false → (a || b) ≡ false
or_none true b not_a not_b = cc
or_none false b not_a not_b = not_b

pub or_none_left : (a b : Bool) → (a || b) ≡ false → a ≡ false
or_none_left true b is = cc
or_none_left false b is = refl

pub or_none_right : (a b : Bool) → (a || b) ≡ false → b ≡ false
or_none_right true b is = cc
or_none_right false b is = is

pub or_assoc : (a b c : Bool) → ((a || b) || c) ≡ (a || (b || c))
or_assoc true b c = refl
or_assoc false b c = refl

pub has_append : (x : ℕ) (xs ys : List ℕ) → has x (xs ++ ys) ≡ (has x xs || has x ys)
has_append x [] ys = refl
has_append x (z ∷ xs) ys = ap (λ b. (x == z) || b) (has_append x xs ys) ∙ sym (or_assoc (x == z) (has x xs) (has x ys))

pub has_here : (x : ℕ) (xs : List ℕ) → has x (x ∷ xs) ≡ true
has_here x xs = elim (eqb_tells x x) [
  | inl same ↦ or_left (x == x) (has x xs) same.0
  | inr other ↦ absurd (other.1 refl)
]

pub has_last : (x : ℕ) (xs : List ℕ) → has x (xs ++ x ∷ []) ≡ true
has_last x xs = has_append x xs (x ∷ []) ∙ or_right (has x xs) (has x (x ∷ [])) (has_here x [])

pub has_or_last : (x y : ℕ) (xs : List ℕ) → has x (xs ++ y ∷ []) ≡ true → (has x xs ≡ true) ⊎ (x ≡ y)
has_or_last x y xs is = elim (or_splits (has x xs) (has x (y ∷ [])) (sym (has_append x xs (y ∷ [])) ∙ is)) [
  | inl front ↦ inl front
  | inr back ↦ elim (or_splits (x == y) false back) [
    | inl same ↦ inr (grind (arith, nat_tests))
    | inr none ↦ cc
  ]
]

pub has_front : (x : ℕ) (xs ys : List ℕ) → has x xs ≡ true → has x (xs ++ ys) ≡ true
has_front x xs ys is = has_append x xs ys ∙ or_left (has x xs) (has x ys) is

-- a list that holds something is there
pub at_within : (lists : List (List ℕ)) (x k : ℕ) → has x (list_at lists k) ≡ true → k < length lists
at_within [] x k is = cc
at_within (xs ∷ lists) x zero is = omega arith
at_within (xs ∷ lists) x (suc k) is = omega (arith, at_within lists x k is)

pub at_missing : (lists : List (List ℕ)) (k : ℕ) → slice_get lists k ≡ None → list_at lists k ≡ []
at_missing [] k none = refl
at_missing (xs ∷ lists) zero none = cc
at_missing (xs ∷ lists) (suc k) none = at_missing lists k none

pub at_present : (lists : List (List ℕ)) (k : ℕ) (xs : List ℕ) → slice_get lists k ≡ Some xs → list_at lists k ≡ xs
at_present [] k xs is = cc
at_present (ys ∷ lists) zero xs is = cc
at_present (ys ∷ lists) (suc k) xs is = at_present lists k xs is

pub at_replicate : (n k : ℕ) → list_at (replicate n []) k ≡ []
at_replicate zero k = refl
at_replicate (suc n) zero = refl
at_replicate (suc n) (suc k) = at_replicate n k

pub at_set : (lists : List (List ℕ)) (k : ℕ) (xs : List ℕ) → k < length lists → list_at (slice_set lists k xs) k ≡ xs
at_set [] k xs inside = absurd (omega arith)
at_set (ys ∷ lists) zero xs inside = refl
at_set (ys ∷ lists) (suc k) xs inside = at_set lists k xs (omega arith)

pub at_set_other : (lists : List (List ℕ)) (k j : ℕ) (xs : List ℕ) → (k ≡ j → ⊥) → list_at (slice_set lists k xs) j ≡ list_at lists j
at_set_other [] k j xs other = refl
at_set_other (ys ∷ lists) zero zero xs other = absurd (other refl)
at_set_other (ys ∷ lists) zero (suc j) xs other = refl
at_set_other (ys ∷ lists) (suc k) zero xs other = refl
at_set_other (ys ∷ lists) (suc k) (suc j) xs other = at_set_other lists k j xs (λ same. other (ap suc same))

pub at_read : (lists : List (List ℕ)) (k : ℕ) (xs : List ℕ) → k < length lists → xs ≡ get_or lists k xs → xs ≡ list_at lists k
at_read [] k xs inside is = absurd (omega arith)
at_read (ys ∷ lists) zero xs inside is = is
at_read (ys ∷ lists) (suc k) xs inside is = at_read lists k xs (omega arith) is

pub at_beyond : (lists : List (List ℕ)) (k : ℕ) → length lists ≤ k → list_at lists k ≡ []
at_beyond [] k beyond = refl
at_beyond (ys ∷ lists) zero beyond = absurd (omega arith)
at_beyond (ys ∷ lists) (suc k) beyond = at_beyond lists k (omega arith)
