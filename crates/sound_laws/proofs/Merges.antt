-- Values among which a pass puts new ones, numbered on.
use Rattle.std.proofs.Common.{◌≡◌, ◌≤◌, ◌<◌, ◌⊎◌, inl, inr, ℕ, zero, suc, ◌+◌, List, [], ◌∷◌, ◌++◌, Some, slice_get, refl, sym, ap, ◌∙◌, subst, arith}
use Rattle.ir_forms.specs.declared.ops.ValueNo.{ValueNo}
use Rattle.value_numbers.specs.Numbers.{as_numbers}
use Rattle.sound_laws.specs.Made.{Runs}

-- the second list is the first one with new values among its own, which have the numbers from one number on, up to another
pub data Merges : List ValueNo → ℕ → ℕ → List ValueNo → Type 0 where
  all_merged : (n : ℕ) → Merges [] n n []
  old : (v : ValueNo) (us : List ValueNo) (n m : ℕ) (vs : List ValueNo) → Merges us n m vs → Merges (v ∷ us) n m (v ∷ vs)
  new : (v : ValueNo) (us : List ValueNo) (n m : ℕ) (vs : List ValueNo) → v.0 ≡ n → Merges us (n + 1) m vs → Merges us n m (v ∷ vs)

pub merged_both : {us : List ValueNo} {n k : ℕ} {vs : List ValueNo} (m : ℕ) (ws xs : List ValueNo) → Merges us n k vs → Merges ws k m xs → Merges (us ++ ws) n m (vs ++ xs)
merged_both m ws xs (all_merged n) g = g
merged_both m ws xs (old v us n k vs h) g = old v (us ++ ws) n m (vs ++ xs) (merged_both m ws xs h g)
merged_both m ws xs (new v us n k vs e h) g = new v (us ++ ws) n m (vs ++ xs) e (merged_both m ws xs h g)

pub merged_new : (vs : List ValueNo) (n m : ℕ) → Runs n m vs → Merges [] n m vs
merged_new [] n m run = subst (λ k. Merges [] n k []) run (all_merged n)
merged_new (v ∷ vs) n m run = new v [] n m vs run.0 (merged_new vs (n + 1) m run.1)

pub merged_old : (vs : List ValueNo) (n : ℕ) → Merges vs n n vs
merged_old [] n = all_merged n
merged_old (v ∷ vs) n = old v vs n n vs (merged_old vs n)

-- ---- no value twice

abbrev pub In : ℕ → List ValueNo → Type 0
In x vs = (k : ℕ) × (slice_get (as_numbers vs) k ≡ Some x)

-- no number stands twice
abbrev pub Once : List ValueNo → Type 0
Once [] = Unit {0}
Once (v ∷ vs) = (In v.0 vs → ⊥) × Once vs

abbrev pub Below : ℕ → List ValueNo → Type 0
Below n [] = Unit {0}
Below n (v ∷ vs) = (v.0 < n) × Below n vs

below_in : (n x : ℕ) (vs : List ValueNo) (k : ℕ) → Below n vs → slice_get (as_numbers vs) k ≡ Some x → x < n
below_in n x [] k h at = cc
below_in n x (v ∷ vs) zero h at = let same : v.0 ≡ x = cc in omega (arith, h.0, same)
below_in n x (v ∷ vs) (suc k) h at = below_in n x vs k h.1 at

-- what stands in the second list stands in the first one, or is new
in_merged : {us : List ValueNo} {n m : ℕ} {vs : List ValueNo} (x k : ℕ) → Merges us n m vs → slice_get (as_numbers vs) k ≡ Some x → In x us ⊎ (n ≤ x)
in_merged x k (all_merged n) at = cc
in_merged x zero (old v us n m vs h) at = inl (0, at)
in_merged x (suc k) (old v us n m vs h) at = step (in_merged x k h at)
  where
    step : In x us ⊎ (n ≤ x) → In x (v ∷ us) ⊎ (n ≤ x)
    step (inl i) = inl (suc i.0, i.1)
    step (inr le) = inr le
in_merged x zero (new v us n m vs e h) at = let same : v.0 ≡ x = cc in inr (omega (arith, same, e))
in_merged x (suc k) (new v us n m vs e h) at = step (in_merged x k h at)
  where
    step : In x us ⊎ (n + 1 ≤ x) → In x us ⊎ (n ≤ x)
    step (inl i) = inl i
    step (inr le) = inr (omega (arith, le))

pub merged_once : {us : List ValueNo} {n m : ℕ} {vs : List ValueNo} → Merges us n m vs → Below n us → Once us → Once vs
merged_once (all_merged n) low once = tt
merged_once (old v us n m vs h) low once = (λ i. step (in_merged v.0 i.0 h i.1), merged_once h low.1 once.1)
  where
    step : In v.0 us ⊎ (n ≤ v.0) → ⊥
    step (inl i) = once.0 i
    step (inr le) = absurd (omega (arith, le, low.0))
merged_once (new v us n m vs e h) low once = (λ i. step (in_merged v.0 i.0 h i.1), merged_once h (later us low) once)
  where
    later : (us : List ValueNo) → Below n us → Below (n + 1) us
    later [] low = tt
    later (u ∷ us) low = (omega (arith, low.0), later us low.1)

    step : In v.0 us ⊎ (n + 1 ≤ v.0) → ⊥
    step (inl i) = let under : v.0 < n = below_in n v.0 us i.0 low i.1 in absurd (omega (arith, under, e))
    step (inr le) = absurd (omega (arith, le, e))

-- ---- the same by places

pub once_of : (vs : List ValueNo) → ((i j x : ℕ) → slice_get (as_numbers vs) i ≡ Some x → slice_get (as_numbers vs) j ≡ Some x → i ≡ j) → Once vs
once_of [] h = tt
once_of (v ∷ vs) h = (
  λ i. let e : 0 ≡ suc i.0 = h 0 (suc i.0) v.0 refl i.1 in absurd (omega (arith, e)),
  once_of vs (λ i j x p q. let e : suc i ≡ suc j = h (suc i) (suc j) x p q in omega (arith, e)),
)

pub once_at : (vs : List ValueNo) → Once vs → (i j x : ℕ) → slice_get (as_numbers vs) i ≡ Some x → slice_get (as_numbers vs) j ≡ Some x → i ≡ j
once_at [] h i j x p q = cc
once_at (v ∷ vs) h zero zero x p q = refl
once_at (v ∷ vs) h zero (suc j) x p q = let same : v.0 ≡ x = cc in absurd (h.0 (j, q ∙ ap (λ n. Some n) (sym same)))
once_at (v ∷ vs) h (suc i) zero x p q = let same : v.0 ≡ x = cc in absurd (h.0 (i, p ∙ ap (λ n. Some n) (sym same)))
once_at (v ∷ vs) h (suc i) (suc j) x p q = ap suc (once_at vs h.1 i j x p q)
