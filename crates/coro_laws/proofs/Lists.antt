-- What stands where in joined lists.
use Rattle.std.proofs.Common.{◌≡◌, ◌⊎◌, inl, inr, ℕ, zero, suc, ◌+◌, List, [], ◌∷◌, ◌++◌, length, Some, refl, subst, arith}
use Rattle.std.specs.Prelude.{slice_get}

-- it stands somewhere
abbrev pub Among : {A : Type 0} → A → List A → Type 0
Among {A = A} x xs = (n : ℕ) × (slice_get xs n ≡ Some x)

-- nothing stands at two places
abbrev pub Distinct : {A : Type 0} → List A → Type 0
Distinct {A = A} xs = (i j : ℕ) (x : A) → slice_get xs i ≡ Some x → slice_get xs j ≡ Some x → i ≡ j

pub at_left : {A : Type 0} → (xs ys : List A) (n : ℕ) (x : A) → slice_get xs n ≡ Some x → slice_get (xs ++ ys) n ≡ Some x
at_left [] ys n x at = cc
at_left (z ∷ xs) ys zero x at = at
at_left (z ∷ xs) ys (suc n) x at = at_left xs ys n x at

pub at_right : {A : Type 0} → (xs ys : List A) (m n : ℕ) (y : A) → slice_get ys m ≡ Some y → n ≡ length xs + m → slice_get (xs ++ ys) n ≡ Some y
at_right [] ys m n y at is = let same : m ≡ n = omega (arith, is) in subst (λ k. slice_get ys k ≡ Some y) same at
at_right (x ∷ xs) ys m zero y at is = absurd (omega (arith, is))
at_right (x ∷ xs) ys m (suc n) y at is = at_right xs ys m n y at (omega (arith, is))

abbrev pub Behind : {A : Type 0} → List A → List A → ℕ → A → Type 0
Behind xs ys n x = (m : ℕ) × (slice_get ys m ≡ Some x) × (n ≡ length xs + m)

pub at_split : {A : Type 0} → (xs ys : List A) (n : ℕ) (x : A) → slice_get (xs ++ ys) n ≡ Some x → (slice_get xs n ≡ Some x) ⊎ Behind xs ys n x
at_split [] ys n x at = inr (n, at, omega arith)
at_split (z ∷ xs) ys zero x at = inl at
at_split (z ∷ xs) ys (suc n) x at = elim (at_split xs ys n x at) [
  | inl front ↦ inl front
  | inr back ↦ (let is : n ≡ length xs + back.0 = back.2 in inr (back.0, back.1, omega (arith, is)))
]

pub among_left : {A : Type 0} → (xs ys : List A) (x : A) → Among x xs → Among x (xs ++ ys)
among_left xs ys x a = (a.0, at_left xs ys a.0 x a.1)

pub among_right : {A : Type 0} → (xs ys : List A) (x : A) → Among x ys → Among x (xs ++ ys)
among_right xs ys x a = (length xs + a.0, at_right xs ys a.0 (length xs + a.0) x a.1 refl)

pub among_either : {A : Type 0} → (xs ys : List A) (x : A) → Among x (xs ++ ys) → Among x xs ⊎ Among x ys
among_either xs ys x a = elim (at_split xs ys a.0 x a.1) [ inl front ↦ inl (a.0, front) | inr back ↦ inr (back.0, back.1) ]

pub distinct_none : {A : Type 0} → Distinct {A = A} []
distinct_none i j x at also = cc

pub distinct_one : {A : Type 0} → (y : A) → Distinct (y ∷ [])
distinct_one y zero zero x at also = refl
distinct_one y zero (suc j) x at also = cc
distinct_one y (suc i) j x at also = cc

pub distinct_append : {A : Type 0} → (xs ys : List A) → Distinct xs → Distinct ys → ((x : A) → Among x xs → Among x ys → ⊥) → Distinct (xs ++ ys)
distinct_append xs ys one two apart i j x at also = elim (at_split xs ys i x at) [
  | inl front ↦ elim (at_split xs ys j x also) [
    | inl front' ↦ one i j x front front'
    | inr back' ↦ absurd (apart x (i, front) (back'.0, back'.1))
  ]
  | inr back ↦ elim (at_split xs ys j x also) [
    | inl front' ↦ absurd (apart x (j, front') (back.0, back.1))
    | inr back' ↦ (let same : back.0 ≡ back'.0 = two back.0 back'.0 x back.1 back'.1 in let a : i ≡ length xs + back.0 = back.2 in let b : j ≡ length xs + back'.0 = back'.2 in omega (arith, a, b, same))
  ]
]
