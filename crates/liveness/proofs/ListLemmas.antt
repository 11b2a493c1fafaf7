-- Numbers in lists, and lists and sets at places.
use Rattle.std.proofs.Common.{◌≡◌, ◌⊎◌, inl, inr, ℕ, zero, suc, ◌<◌, ◌≤◌, ◌==◌, ◌||◌, ◌&&◌, not, Bool, true, false, List, [], ◌∷◌, ◌++◌, length, get_or, refl, sym, ap, ◌∙◌, arith}
use Rattle.std.specs.Prelude.{slice_set}
use Rattle.std.proofs.lemmas.Bool.Decides.{eqb_tells}
use Rattle.bit_sets.specs.Members.{is_in}
use Rattle.low_flow.specs.Lists.{has, list_at}
use Rattle.liveness.specs.Flow.{set_at}

pub is_either : (b : Bool) → (b ≡ true) ⊎ (b ≡ false)
is_either true = inl refl
is_either false = inr refl

pub within : (a b : ℕ) → (a < b) ⊎ (b ≤ a)
within a zero = inr (omega arith)
within zero (suc b) = inl (omega arith)
within (suc a) (suc b) = elim (within a b) [ inl is ↦ inl (omega (arith, is)) | inr not_is ↦ inr (omega (arith, not_is)) ]

pub or_splits : (a b : Bool) → (a || b) ≡ true → (a ≡ true) ⊎ (b ≡ true)
or_splits true b is = inl refl
or_splits false b is = inr is

pub or_left : (a b : Bool) → a ≡ true → (a || b) ≡ true
or_left true b is = refl
or_left false b is = cc

pub or_right : (a b : Bool) → b ≡ true → (a || b) ≡ true
or_right true b is = refl
or_right false b is = is

pub or_assoc : (a b c : Bool) → ((a || b) || c) ≡ (a || (b || c))
or_assoc true b c = refl
or_assoc false b c = refl

pub and_both : (a b : Bool) → (a && b) ≡ true → (a ≡ true) × (b ≡ true)
and_both true b is = (refl, is)
and_both false b is = cc

pub and_all : (a b : Bool) → a ≡ true → b ≡ true → (a && b) ≡ true
and_all true b is also = also
and_all false b is also = cc

pub not_true : (a : Bool) → not a ≡ true → a ≡ false
not_true true is = cc
not_true false is = refl

pub not_false : (a : Bool) → a ≡ false → not a ≡ true
not_false true is = cc
not_false false is = refl

pub or_none : (a b : Bool) → (a || b) ≡ false → (a ≡ false) × (b ≡ false)
or_none true b is = cc
or_none false b is = (refl, is)

pub neither : (a b : Bool) → a ≡ false → b ≡ false → (a || b) ≡ false
neither true b is also = cc
neither false b is also = also

pub has_append : (x : ℕ) (xs ys : List ℕ) → has x (xs ++ ys) ≡ (has x xs || has x ys)
has_append x [] ys = refl
has_append x (z ∷ xs) ys = ap (λ b. (x == z) || b) (has_append x xs ys) ∙ sym (or_assoc (x == z) (has x xs) (has x ys))

pub has_here : (x : ℕ) (xs : List ℕ) → has x (x ∷ xs) ≡ true
has_here x xs = elim (eqb_tells x x) [
  | inl same ↦ or_left (x == x) (has x xs) same.0
  | inr other ↦ absurd (other.1 refl)
]

pub at_read : (lists : List (List ℕ)) (k : ℕ) (xs : List ℕ) → k < length lists → xs ≡ get_or lists k xs → xs ≡ list_at lists k
at_read [] k xs inside is = absurd (omega arith)
at_read (ys ∷ lists) zero xs inside is = is
at_read (ys ∷ lists) (suc k) xs inside is = at_read lists k xs (omega arith) is

pub at_beyond : (lists : List (List ℕ)) (k : ℕ) → length lists ≤ k → list_at lists k ≡ []
at_beyond [] k beyond = refl
at_beyond (ys ∷ lists) zero beyond = absurd (omega arith)
at_beyond (ys ∷ lists) (suc k) beyond = at_beyond lists k (omega arith)

pub set_read : (sets : List (List Bool)) (k : ℕ) (s : List Bool) → k < length sets → s ≡ get_or sets k s → s ≡ set_at sets k
set_read [] k s inside is = absurd (omega arith)
set_read (t ∷ sets) zero s inside is = is
set_read (t ∷ sets) (suc k) s inside is = set_read sets k s (omega arith) is

pub set_beyond : (sets : List (List Bool)) (k : ℕ) → length sets ≤ k → set_at sets k ≡ []
set_beyond [] k beyond = refl
set_beyond (t ∷ sets) zero beyond = absurd (omega arith)
set_beyond (t ∷ sets) (suc k) beyond = set_beyond sets k (omega arith)

pub set_here : (sets : List (List Bool)) (k : ℕ) (s : List Bool) → k < length sets → set_at (slice_set sets k s) k ≡ s
set_here [] k s inside = absurd (omega arith)
set_here (t ∷ sets) zero s inside = refl
set_here (t ∷ sets) (suc k) s inside = set_here sets k s (omega arith)

pub set_other : (sets : List (List Bool)) (k j : ℕ) (s : List Bool) → (k ≡ j → ⊥) → set_at (slice_set sets k s) j ≡ set_at sets j
set_other [] k j s other = refl
set_other (t ∷ sets) zero zero s other = absurd (other refl)
set_other (t ∷ sets) zero (suc j) s other = refl
set_other (t ∷ sets) (suc k) zero s other = refl
set_other (t ∷ sets) (suc k) (suc j) s other = set_other sets k j s (λ same. other (ap suc same))

-- a set that holds something is there
pub set_within : (sets : List (List Bool)) (c r : ℕ) → is_in (set_at sets c) r ≡ true → c < length sets
set_within [] c r is = cc
set_within (t ∷ sets) zero r is = omega arith
set_within (t ∷ sets) (suc c) r is = omega (arith, set_within sets c r is)

pub in_within : (set : List Bool) (r : ℕ) → is_in set r ≡ true → r < length set
in_within [] r is = cc
in_within (b ∷ set) zero is = omega arith
in_within (b ∷ set) (suc r) is = omega (arith, in_within set r is)
