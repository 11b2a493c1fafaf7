-- Ordered lists of counted registers hold each once.
use Rattle.std.proofs.Common.{◌≡◌, ◌⊎◌, inl, inr, ℕ, zero, suc, ◌+◌, ◌<◌, ◌==◌, ◌||◌, ◌&&◌, not, if◌then◌else◌, Bool, true, false, List, [], ◌∷◌, refl, sym, ap, ◌∙◌, arith, subst}
use Rattle.std.specs.Prelude.{slice_get, nat_lt}
use Rattle.std.proofs.lemmas.Bool.Decides.{eqb_tells, nat_tests}
use Rattle.low_flow.specs.Lists.{has}
use Rattle.low_forms.specs.declared.code.Reg.{Reg}
use Rattle.low_forms.specs.declared.code.LowFunc.{LowFunc}
use Rattle.low_forms.specs.Assigned.{numbers}
use Rattle.low_forms.specs.Edges.{count_to}
use Rattle.ref_counting.specs.Order.{with_number}
use Rattle.ref_counting.specs.Objects.{is_counted, with_counted}
use Rattle.count_laws.specs.Laws.{one_if}

or_swap : (a b c : Bool) → (a || (b || c)) ≡ ((a || b) || c)
or_swap true b c = refl
or_swap false b c = refl

or_turn : (a b : Bool) → (a || b) ≡ (b || a)
or_turn true true = refl
or_turn true false = refl
or_turn false true = refl
or_turn false false = refl

or_once : (a b : Bool) → (a || b) ≡ ((a || b) || a)
or_once true b = refl
or_once false true = refl
or_once false false = refl

or_none : (a : Bool) → (a || false) ≡ a
or_none true = refl
or_none false = refl

pub or_splits : (a b : Bool) → (a || b) ≡ true → (a ≡ true) ⊎ (b ≡ true)
or_splits true b is = inl refl
or_splits false b is = inr is

same_number : (a b : ℕ) → (a == b) ≡ true → a ≡ b
same_number a b is = grind (arith, nat_tests)

module _ (r n : ℕ) where
  pub has_with_number : (ms : List ℕ) → has r (with_number n ms) ≡ (has r ms || (r == n))
  has_with_number [] = or_none (r == n)
  has_with_number (m ∷ ms) = step (has_with_number ms) (nat_lt m n) (m == n) refl
    where
      step : has r (with_number n ms) ≡ (has r ms || (r == n)) → (b c : Bool) → (m == n) ≡ c
          → has r (if b then m ∷ with_number n ms else (if c then m ∷ ms else n ∷ m ∷ ms)) ≡ (((r == m) || has r ms) || (r == n))
      step later true c is = ap (λ x. (r == m) || x) later ∙ or_swap (r == m) (has r ms) (r == n)
      step later false true is = or_once (r == m) (has r ms) ∙ ap (λ k. ((r == m) || has r ms) || (r == k)) (same_number m n is)
      step later false false is = or_turn (r == n) ((r == m) || has r ms)

module _ (f : LowFunc) (r : ℕ) (counted : is_counted f r ≡ true) where
  pub has_counted : (rs : List Reg) (ms : List ℕ) → has r (with_counted f rs ms) ≡ (has r ms || has r (numbers rs))
  has_counted [] ms = sym (or_none (has r ms))
  has_counted (q ∷ rs) ms =
      has_counted rs (if is_counted f q.0 then with_number q.0 ms else ms)
      ∙ ap (λ x. x || has r (numbers rs)) (one (is_counted f q.0) refl) ∙ sym (or_swap (has r ms) (r == q.0) (has r (numbers rs)))
    where
      one : (b : Bool) → is_counted f q.0 ≡ b → has r (if b then with_number q.0 ms else ms) ≡ (has r ms || (r == q.0))
      one true is = has_with_number r q.0 ms
      one false is = elim (eqb_tells r q.0) [
        | inl same ↦ (let e : is_counted f r ≡ is_counted f q.0 = ap (λ x. is_counted f x) same.1 in let t : is_counted f r ≡ true = counted in cc)
        | inr other ↦ sym (ap (λ x. has r ms || x) other.0 ∙ or_none (has r ms))
      ]

-- ---- in order

abbrev pub Ascends : List ℕ → Type 0
Ascends [] = Unit {0}
Ascends (m ∷ ms) = ((x : ℕ) → has x ms ≡ true → m < x) × Ascends ms

pub ascends_with : (n : ℕ) (ms : List ℕ) → Ascends ms → Ascends (with_number n ms)
ascends_with n [] is = ((λ x there. cc), tt)
ascends_with n (m ∷ ms) is = step (ascends_with n ms is.1) (nat_lt m n) (m == n) refl refl
  where
    step : Ascends (with_number n ms) → (b c : Bool) → nat_lt m n ≡ b → (m == n) ≡ c → Ascends (if b then m ∷ with_number n ms else (if c then m ∷ ms else n ∷ m ∷ ms))
    step later true c less same = (
      λ x there. elim (or_splits (has x ms) (x == n) (sym (has_with_number x n ms) ∙ there)) [
        | inl before ↦ is.0 x before
        | inr now ↦ (let e : x ≡ n = same_number x n now in let l : m < n = grind (arith, nat_tests, less) in omega (arith, e, l))
      ],
      later,
    )
    step later false true less same = is
    step later false false less same =
        let l : n < m = grind (arith, nat_tests, less, same) in (
          λ x there. elim (or_splits (x == m) (has x ms) there) [
            | inl now ↦ (let e : x ≡ m = same_number x m now in omega (arith, e, l))
            | inr later ↦ (let h : m < x = is.0 x later in omega (arith, h, l))
          ],
          is,
        )

pub ascends_counted : (f : LowFunc) (rs : List Reg) (ms : List ℕ) → Ascends ms → Ascends (with_counted f rs ms)
ascends_counted f [] ms is = is
ascends_counted f (q ∷ rs) ms is = ascends_counted f rs (if is_counted f q.0 then with_number q.0 ms else ms) (one (is_counted f q.0))
  where
    one : (b : Bool) → Ascends (if b then with_number q.0 ms else ms)
    one true = ascends_with q.0 ms is
    one false = is

-- what comes first comes no more
pub not_later : (r m : ℕ) (ms : List ℕ) → Ascends (m ∷ ms) → (r == m) ≡ true → has r ms ≡ false
not_later r m ms is same = step (has r ms) refl
  where
    step : (b : Bool) → has r ms ≡ b → b ≡ false
    step true there = (let e : r ≡ m = same_number r m same in let l : m < r = is.0 r there in absurd (omega (arith, e, l)))
    step false there = refl

pub none_of : (r : ℕ) (xs : List ℕ) → has r xs ≡ false → count_to r xs ≡ 0
none_of r [] none = refl
none_of r (x ∷ xs) none = step (λ e. none_of r xs e) (r == x) none
  where
    step : (has r xs ≡ false → count_to r xs ≡ 0) → (b : Bool) → (b || has r xs) ≡ false → (if b then count_to r xs + 1 else count_to r xs) ≡ 0
    step later true is = cc
    step later false is = later is
