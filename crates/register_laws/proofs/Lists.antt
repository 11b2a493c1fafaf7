-- Tests of lists, and lists that hold what others hold.
use Rattle.std.proofs.Common.{◌≡◌, inl, inr, ℕ, zero, suc, ◌==◌, Bool, true, false, List, [], ◌∷◌, ◌++◌, map, Some, refl, sym, ap, ◌∙◌, subst}
use Rattle.std.specs.Prelude.{slice_get}
use Rattle.std.proofs.lemmas.Bool.Decides.{eqb_tells}
use Rattle.low_flow.specs.Lists.{has, list_at}
use Rattle.low_flow.proofs.Membership.{or_splits, or_left, or_right, has_append}
use Rattle.low_forms.specs.Registers.{every}
use Rattle.low_forms.proofs.Words.{and_left, and_right, and_both}

-- ---- tests of all elements

pub every_at : {A : Type 0} → (p : A → Bool) (xs : List A) (k : ℕ) (x : A) → every p xs ≡ true → slice_get xs k ≡ Some x → p x ≡ true
every_at p [] k x all at = cc
every_at p (y ∷ ys) zero x all at = let same : y ≡ x = cc in subst (λ z. p z ≡ true) same (and_left (p y) (every p ys) all)
every_at p (y ∷ ys) (suc k) x all at = every_at p ys k x (and_right (p y) (every p ys) all) at

pub every_from : {A : Type 0} → (p : A → Bool) (xs : List A) → ((k : ℕ) (x : A) → slice_get xs k ≡ Some x → p x ≡ true) → every p xs ≡ true
every_from p [] each = refl
every_from p (x ∷ xs) each = and_both (p x) (every p xs) (each 0 x refl) (every_from p xs (λ k y. each (suc k) y))

pub every_mapped : {A B : Type 0} → (q : A → Bool) (p : B → Bool) (f : A → B) (xs : List A) → ((x : A) → q x ≡ true → p (f x) ≡ true) → every q xs ≡ true → every p (map f xs) ≡ true
every_mapped q p f [] weaker all = refl
every_mapped q p f (x ∷ xs) weaker all =
    and_both (p (f x)) (every p (map f xs)) (weaker x (and_left (q x) (every q xs) all)) (every_mapped q p f xs weaker (and_right (q x) (every q xs) all))

pub every_append : {A : Type 0} → (p : A → Bool) (xs ys : List A) → every p xs ≡ true → every p ys ≡ true → every p (xs ++ ys) ≡ true
every_append p [] ys all more = more
every_append p (x ∷ xs) ys all more = and_both (p x) (every p (xs ++ ys)) (and_left (p x) (every p xs) all) (every_append p xs ys (and_right (p x) (every p xs) all) more)

-- ---- mapped lists

pub mapped_back : {A B : Type 0} → (f : A → B) (xs : List A) (k : ℕ) (y : B) → slice_get (map f xs) k ≡ Some y → (x : A) × (slice_get xs k ≡ Some x) × (f x ≡ y)
mapped_back f [] k y at = cc
mapped_back f (x ∷ xs) zero y at = (x, refl, cc)
mapped_back f (x ∷ xs) (suc k) y at = mapped_back f xs k y at

pub mapped_there : {A B : Type 0} → (f : A → B) (xs : List A) (k : ℕ) (x : A) → slice_get xs k ≡ Some x → slice_get (map f xs) k ≡ Some (f x)
mapped_there f [] k x at = cc
mapped_there f (y ∷ ys) zero x at = let same : y ≡ x = cc in ap (λ z. Some (f z)) same
mapped_there f (y ∷ ys) (suc k) x at = mapped_there f ys k x at

-- ---- one list holds what another holds

abbrev pub Sub : List ℕ → List ℕ → Type 0
Sub xs ys = (r : ℕ) → has r xs ≡ true → has r ys ≡ true

pub sub_left : (xs ys : List ℕ) → Sub xs (xs ++ ys)
sub_left xs ys r is = has_append r xs ys ∙ or_left (has r xs) (has r ys) is

pub sub_right : (xs ys : List ℕ) → Sub ys (xs ++ ys)
sub_right xs ys r is = has_append r xs ys ∙ or_right (has r xs) (has r ys) is

pub sub_both : (xs ys zs : List ℕ) → Sub xs zs → Sub ys zs → Sub (xs ++ ys) zs
sub_both xs ys zs one two r is = elim (or_splits (has r xs) (has r ys) (sym (has_append r xs ys) ∙ is)) [ inl a ↦ one r a | inr b ↦ two r b ]

pub sub_then : (xs ys zs : List ℕ) → Sub xs ys → Sub ys zs → Sub xs zs
sub_then xs ys zs one two r is = two r (one r is)

pub sub_front : (xs ys zs : List ℕ) → Sub (xs ++ ys) zs → Sub xs zs
sub_front xs ys zs all r is = all r (sub_left xs ys r is)

pub sub_back : (xs ys zs : List ℕ) → Sub (xs ++ ys) zs → Sub ys zs
sub_back xs ys zs all r is = all r (sub_right xs ys r is)

pub sub_append : (xs ys us vs : List ℕ) → Sub xs us → Sub ys vs → Sub (xs ++ ys) (us ++ vs)
sub_append xs ys us vs one two = sub_both xs ys (us ++ vs) (λ r is. sub_left us vs r (one r is)) (λ r is. sub_right us vs r (two r is))

pub sub_same : (xs ys : List ℕ) → xs ≡ ys → Sub xs ys
sub_same xs ys same r is = subst (λ zs. has r zs ≡ true) same is

-- ---- under other numbers

pub has_mapped : (σ : ℕ → ℕ) (xs : List ℕ) (r : ℕ) → has r xs ≡ true → has (σ r) (map σ xs) ≡ true
has_mapped σ [] r is = cc
has_mapped σ (x ∷ xs) r is = elim (or_splits (r == x) (has r xs) is) [
  | inl here ↦ or_left (σ r == σ x) (has (σ r) (map σ xs)) (elim (eqb_tells r x) [
    | inl same ↦ elim (eqb_tells (σ r) (σ x)) [ inl s ↦ s.0 | inr o ↦ absurd (o.1 (ap σ same.1)) ]
    | inr other ↦ (let no : (r == x) ≡ false = other.0 in cc)
  ])
  | inr later ↦ or_right (σ r == σ x) (has (σ r) (map σ xs)) (has_mapped σ xs r later)
]

pub mapped_has : (σ : ℕ → ℕ) (xs : List ℕ) (s : ℕ) → has s (map σ xs) ≡ true → (r : ℕ) × (has r xs ≡ true) × (s ≡ σ r)
mapped_has σ [] s is = cc
mapped_has σ (x ∷ xs) s is = elim (or_splits (s == σ x) (has s (map σ xs)) is) [
  | inl here ↦ elim (eqb_tells s (σ x)) [
    | inl same ↦ (x, or_left (x == x) (has x xs) (elim (eqb_tells x x) [ inl t ↦ t.0 | inr o ↦ absurd (o.1 refl) ]), same.1)
    | inr other ↦ (let no : (s == σ x) ≡ false = other.0 in cc)
  ]
  | inr later ↦ (let m : (r : ℕ) × (has r xs ≡ true) × (s ≡ σ r) = mapped_has σ xs s later in (m.0, or_right (m.0 == x) (has m.0 xs) m.1, m.2))
]

pub sub_mapped : (σ : ℕ → ℕ) (xs ys : List ℕ) → Sub xs ys → Sub (map σ xs) (map σ ys)
sub_mapped σ xs ys sub s is =
    let m : (r : ℕ) × (has r xs ≡ true) × (s ≡ σ r) = mapped_has σ xs s is in
    subst (λ q. has q (map σ ys) ≡ true) (sym m.2) (has_mapped σ ys m.0 (sub m.0 m.1))

pub list_at_mapped : (σ : ℕ → ℕ) (lists : List (List ℕ)) (k : ℕ) → list_at (map (map σ) lists) k ≡ map σ (list_at lists k)
list_at_mapped σ [] k = refl
list_at_mapped σ (xs ∷ lists) zero = refl
list_at_mapped σ (xs ∷ lists) (suc k) = list_at_mapped σ lists k
