-- The first places of numbers in a list.
use Rattle.std.proofs.Common.{◌≡◌, ◌≢◌, ◌⊎◌, inl, inr, ◌==◌, ℕ, zero, suc, eqb, cond, Bool, true, false, List, [], ◌∷◌, Option, Some, None, refl, sym, ap, subst, ◌∙◌}
use Rattle.std.specs.Prelude.{slice_get, unwrap_or}
use Rattle.std.proofs.lemmas.Bool.Decides.{eqb_tells}
use Rattle.std.specs.Option.{option_map}
use Rattle.low_flow.specs.Lists.{has}
use Rattle.low_flow.proofs.Membership.{or_splits}
use Rattle.register_numbers.specs.FirstPlaces.{first_place, place_in, unknown}

told : (x y : ℕ) (P : Bool → Type 0) → (x ≡ y → P true) → (x ≢ y → P false) → ((eqb x y ≡ true) × (x ≡ y)) ⊎ ((eqb x y ≡ false) × (x ≢ y)) → P (eqb x y)
told x y P same other (inl t) = subst P (sym t.0) (same t.1)
told x y P same other (inr t) = subst P (sym t.0) (other t.1)

-- by cases on whether two numbers are equal
pub by_eq : (x y : ℕ) (P : Bool → Type 0) → (x ≡ y → P true) → (x ≢ y → P false) → P (eqb x y)
by_eq x y P same other = told x y P same other (eqb_tells x y)

-- the number has a first place, and stands there
pub record Found (xs : List ℕ) (x : ℕ) : Type 0 where
  pub place : ℕ
  pub first : first_place xs x ≡ Some place
  pub at : slice_get xs place ≡ Some x

abbrev behind : ℕ → ℕ → List ℕ → Bool → Option ℕ
behind y x ys b = cond b (Some 0) (option_map suc (first_place ys x))

found_later : (y x : ℕ) (ys : List ℕ) → y ≢ x → Found ys x → Found (y ∷ ys) x
found_later y x ys other f = record {
  place = suc f.place;
  first = by_eq y x (λ b. behind y x ys b ≡ Some (suc f.place)) (λ same. absurd (other same)) (λ o. ap (option_map suc) f.first);
  at = f.at;
}

found_here : (y x : ℕ) (ys : List ℕ) → y ≡ x → Found (y ∷ ys) x
found_here y x ys same = record {
  place = 0;
  first = by_eq y x (λ b. behind y x ys b ≡ Some 0) (λ s. refl) (λ other. absurd (other same));
  at = ap (λ k. Some k) same;
}

pub found : (xs : List ℕ) (i x : ℕ) → slice_get xs i ≡ Some x → Found xs x
found [] i x at = cc
found (y ∷ ys) zero x at = found_here y x ys (cc)
found (y ∷ ys) (suc i) x at = by_eq y x (λ b. Found (y ∷ ys) x) (λ same. found_here y x ys same) (λ other. found_later y x ys other (found ys i x at))

pub found_where : (xs : List ℕ) (x : ℕ) → has x xs ≡ true → Found xs x
found_where [] x is = cc
found_where (y ∷ ys) x is = elim (eqb_tells x y) [
  | inl same ↦ found_here y x ys (sym same.1)
  | inr other ↦ elim (or_splits (x == y) (has x ys) is) [
    | inl here ↦ (let no : (x == y) ≡ false = other.0 in cc)
    | inr later ↦ found_later y x ys (λ s. other.1 (sym s)) (found_where ys x later)
  ]
]

pub place_is : (xs : List ℕ) (x : ℕ) (f : Found xs x) → place_in xs x ≡ f.place
place_is xs x f = ap (λ (o : Option ℕ). unwrap_or o unknown) f.first

-- where it has a first place, it stands there
stood : (y x n : ℕ) (ys : List ℕ) (o : Option ℕ) → first_place ys x ≡ o → ((m : ℕ) → first_place ys x ≡ Some m → slice_get ys m ≡ Some x) → option_map suc o ≡ Some n → slice_get (y ∷ ys) n ≡ Some x
stood y x n ys None was again is = cc
stood y x zero ys (Some m) was again is = cc
stood y x (suc n) ys (Some m) was again is = let same : m ≡ n = cc in again n (was ∙ ap (λ k. Some k) same)

pub stands : (xs : List ℕ) (x n : ℕ) → first_place xs x ≡ Some n → slice_get xs n ≡ Some x
stands [] x n is = cc
stands (y ∷ ys) x n is = by_eq y x (λ b. behind y x ys b ≡ Some n → slice_get (y ∷ ys) n ≡ Some x)
    (λ same e. here n same e) (λ other e. stood y x n ys (first_place ys x) refl (stands ys x) e) is
  where
    here : (n : ℕ) → y ≡ x → Some 0 ≡ Some n → slice_get (y ∷ ys) n ≡ Some x
    here zero same e = ap (λ k. Some k) same
    here (suc m) same e = cc
