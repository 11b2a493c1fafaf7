-- Lists in the other order, cells, and what is found under a name.
use Rattle.std.specs.Prelude.{nat_eq, nat_lt, cond, slice_set, replicate}
use Rattle.std.proofs.Common.{◌≡◌, ◌<◌, ℕ, zero, suc, Bool, true, false, List, [], ◌∷◌, ◌++◌, length, Some, None, slice_get, refl, sym, ap, subst, ◌∙◌, arith}
use Rattle.std.proofs.lemmas.List.{length-append}
use Rattle.std.proofs.lemmas.Bool.{true≢false, ltb-true, ltb-false, le-ltb, lt-ltb, eq-eqb, eqb-true}
use Rattle.std.proofs.Math.Dec.{eqb-suc-zero, eqb-zero-suc}
use Rattle.one_end.specs.Runs as runs
use Rattle.source_meaning.specs.World as world
use Rattle.source_meaning.specs.Values.{or_else}

-- ---- the other way round

abbrev pub turned_round : {X : Type 0} → List X → List X
turned_round [] = []
turned_round (x ∷ xs) = turned_round xs ++ x ∷ []

pub turned_length : {X : Type 0} (xs : List X) → length (turned_round xs) ≡ length xs
turned_length [] = refl
turned_length (x ∷ xs) = omega (arith, length-append (turned_round xs) (x ∷ []), turned_length xs)

module _ {X : Type 0} (s t : X → Bool) (same : (x : X) → s x ≡ t x) where
  all_snoc : (xs : List X) (x : X) → world.all_of s (xs ++ x ∷ []) ≡ cond (s x) (world.all_of s xs) false
  all_snoc [] x = refl
  all_snoc (y ∷ xs) x = ap (λ b. cond (s y) b false) (all_snoc xs x) ∙ swap (s y) (s x) where
    swap : (a b : Bool) → cond a (cond b (world.all_of s xs) false) false ≡ cond b (cond a (world.all_of s xs) false) false
    swap true true = refl
    swap true false = refl
    swap false true = refl
    swap false false = refl

  pub all_turned : (xs : List X) → world.all_of s (turned_round xs) ≡ runs.all_of t xs
  all_turned [] = refl
  all_turned (x ∷ xs) = all_snoc (turned_round xs) x ∙ (ap (λ b. cond b (world.all_of s (turned_round xs)) false) (same x) ∙ ap (λ b. cond (t x) b false) (all_turned xs))

pub below_agree : (s t : ℕ → Bool) → ((i : ℕ) → s i ≡ t i) → (n : ℕ) → world.all_below s n ≡ runs.all_below t n
below_agree s t h zero = refl
below_agree s t h (suc n) = ap (λ b. cond b (world.all_below s n) false) (h n) ∙ ap (λ b. cond (t n) b false) (below_agree s t h n)

pub below_each : (s : ℕ → Bool) (n : ℕ) → world.all_below s n ≡ true → (i : ℕ) → i < n → s i ≡ true
below_each s zero e i l = absurd (omega (arith, l))
below_each s (suc n) e i l = split (s n) refl e (λ k m. below_each s n k i m) where
  split : (b : Bool) → s n ≡ b → cond b (world.all_below s n) false ≡ true → (world.all_below s n ≡ true → i < n → s i ≡ true) → s i ≡ true
  split false h k r = absurd (true≢false (sym k))
  split true h k r = by (nat_lt i n) refl where
    by : (c : Bool) → nat_lt i n ≡ c → s i ≡ true
    by true w = r k (ltb-true i n w)
    by false w = subst (λ j. s j ≡ true) (omega (arith, l, ltb-false i n w)) h

pub each_below : (s : ℕ → Bool) (n : ℕ) → ((i : ℕ) → i < n → s i ≡ true) → world.all_below s n ≡ true
each_below s zero h = refl
each_below s (suc n) h = ap (λ b. cond b (world.all_below s n) false) (h n (omega arith)) ∙ each_below s n (λ i l. h i (omega (arith, l)))

pub all_each : {X : Type 0} (s : X → Bool) (xs : List X) → runs.all_of s xs ≡ true → runs.Each (λ x. s x ≡ true) xs
all_each s [] e = tt
all_each s (x ∷ xs) e = split (s x) refl e (all_each s xs) where
  split : (b : Bool) → s x ≡ b → cond b (runs.all_of s xs) false ≡ true → (runs.all_of s xs ≡ true → runs.Each (λ x. s x ≡ true) xs) → (s x ≡ true) × runs.Each (λ x. s x ≡ true) xs
  split true h k r = (h, r k)
  split false h k r = absurd (true≢false (sym k))

pub each_all : {X : Type 0} (s : X → Bool) (xs : List X) → runs.Each (λ x. s x ≡ true) xs → runs.all_of s xs ≡ true
each_all s [] h = refl
each_all s (x ∷ xs) h = ap (λ b. cond b (runs.all_of s xs) false) h.0 ∙ each_all s xs h.1

-- ---- cells

lt_suc : (i n : ℕ) → nat_lt (suc i) (suc n) ≡ nat_lt i n
lt_suc i n = split (nat_lt i n) refl where
  split : (t : Bool) → nat_lt i n ≡ t → nat_lt (suc i) (suc n) ≡ t
  split true e = lt-ltb (suc i) (suc n) (omega (arith, ltb-true i n e))
  split false e = le-ltb (suc i) (suc n) (omega (arith, ltb-false i n e))

eq_suc : (i j : ℕ) → nat_eq (suc i) (suc j) ≡ nat_eq i j
eq_suc i j = split (nat_eq i j) refl (nat_eq (suc i) (suc j)) refl where
  split : (t : Bool) → nat_eq i j ≡ t → (u : Bool) → nat_eq (suc i) (suc j) ≡ u → u ≡ t
  split true e u h = sym h ∙ eq-eqb (suc i) (suc j) (omega (arith, eqb-true i j e))
  split false e false h = refl
  split false e true h = absurd (true≢false (sym (eq-eqb i j (omega (arith, eqb-true (suc i) (suc j) h))) ∙ e))

-- the number in a cell; there is none past the end
abbrev pub cell_of : List ℕ → ℕ → ℕ
cell_of cs i = or_else 0 (slice_get cs i)

pub cell_zero : (n i : ℕ) → cell_of (replicate n 0) i ≡ 0
cell_zero zero i = refl
cell_zero (suc n) zero = refl
cell_zero (suc n) (suc i) = cell_zero n i

pub cell_set : (cs : List ℕ) (i n j : ℕ) → cell_of (slice_set cs i n) j ≡ runs.or_else (cell_of cs j) (cond (nat_eq i j) (Some (cond (nat_lt i (length cs)) n 0)) None)
cell_set [] i n j = split (nat_eq i j) ∙ sym (ap (λ t. runs.or_else 0 (cond (nat_eq i j) (Some (cond t n 0)) None)) (le-ltb i 0 (omega arith))) where
  split : (b : Bool) → ◌≡◌ {A = ℕ} 0 (runs.or_else 0 (cond b (Some 0) None))
  split true = refl
  split false = refl
cell_set (c ∷ cs) zero n zero = sym (ap (λ t. cond t n 0) (lt-ltb 0 (length (c ∷ cs)) (omega arith)))
cell_set (c ∷ cs) zero n (suc j) = sym (ap (λ t. runs.or_else (cell_of cs j) (cond t (Some (cond (nat_lt 0 (length (c ∷ cs))) n 0)) None)) (eqb-zero-suc j))
cell_set (c ∷ cs) (suc i) n zero = sym (ap (λ t. runs.or_else c (cond t (Some (cond (nat_lt (suc i) (length (c ∷ cs))) n 0)) None)) (eqb-suc-zero i))
cell_set (c ∷ cs) (suc i) n (suc j) = cell_set cs i n j ∙ (ap (λ t. runs.or_else (cell_of cs j) (cond t (Some (cond (nat_lt i (length cs)) n 0)) None)) (sym (eq_suc i j)) ∙ ap (λ t. runs.or_else (cell_of cs j) (cond (nat_eq (suc i) (suc j)) (Some (cond t n 0)) None)) (sym (lt_suc i (length cs))))

-- lists of as many cells with the same numbers
pub same_cells : (cs ds : List ℕ) → length cs ≡ length ds → ((i : ℕ) → cell_of cs i ≡ cell_of ds i) → cs ≡ ds
same_cells [] [] l h = refl
same_cells [] (d ∷ ds) l h = absurd (omega (arith, l))
same_cells (c ∷ cs) [] l h = absurd (omega (arith, l))
same_cells (c ∷ cs) (d ∷ ds) l h = ap (λ x. x ∷ cs) (h 0) ∙ ap (λ xs. d ∷ xs) (same_cells cs ds (omega (arith, l)) (λ i. h (suc i)))
