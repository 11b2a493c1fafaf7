-- A number's place in an ordered list.
use Rattle.std.proofs.Common.{◌≡◌, ℕ, suc, ◌==◌, if◌then◌else◌, Bool, true, false, List, [], ◌∷◌, refl, sym, ap, ◌∙◌}
use Rattle.std.specs.Prelude.{slice_get, nat_lt}
use Rattle.std.specs.List.{insert}
use Rattle.ref_counting.specs.Order.{with_number, place, is_number}

kept : (ms : List ℕ) (n : ℕ) → is_number n (slice_get ms (place n ms)) ≡ true → with_number n ms ≡ ms
kept [] n is = cc
kept (m ∷ ms) n is = step (λ e. kept ms n e) (nat_lt m n) is
  where
    here : (c : Bool) → c ≡ true → (if c then m ∷ ms else n ∷ m ∷ ms) ≡ m ∷ ms
    here true is = refl
    here false is = cc

    step : (is_number n (slice_get ms (place n ms)) ≡ true → with_number n ms ≡ ms) → (b : Bool) → is_number n (slice_get (m ∷ ms) (if b then suc (place n ms) else 0)) ≡ true
        → (if b then m ∷ with_number n ms else (if m == n then m ∷ ms else n ∷ m ∷ ms)) ≡ m ∷ ms
    step later true is = ap (λ (xs : List ℕ). m ∷ xs) (later is)
    step later false is = here (m == n) is

placed : (ms : List ℕ) (n : ℕ) → is_number n (slice_get ms (place n ms)) ≡ false → insert ms (place n ms) n ≡ with_number n ms
placed [] n is = refl
placed (m ∷ ms) n is = step (λ e. placed ms n e) (nat_lt m n) is
  where
    here : (c : Bool) → c ≡ false → n ∷ m ∷ ms ≡ (if c then m ∷ ms else n ∷ m ∷ ms)
    here true is = cc
    here false is = refl

    step : (is_number n (slice_get ms (place n ms)) ≡ false → insert ms (place n ms) n ≡ with_number n ms) → (b : Bool) → is_number n (slice_get (m ∷ ms) (if b then suc (place n ms) else 0)) ≡ false
        → insert (m ∷ ms) (if b then suc (place n ms) else 0) n ≡ (if b then m ∷ with_number n ms else (if m == n then m ∷ ms else n ∷ m ∷ ms))
    step later true is = ap (λ (xs : List ℕ). m ∷ xs) (later is)
    step later false is = here (m == n) is

pub kept_at : (ms : List ℕ) (n at : ℕ) → at ≡ place n ms → is_number n (slice_get ms at) ≡ true → with_number n ms ≡ ms
kept_at ms n at is stands = kept ms n (ap (λ k. is_number n (slice_get ms k)) (sym is) ∙ stands)

pub placed_at : (ms : List ℕ) (n at : ℕ) → at ≡ place n ms → is_number n (slice_get ms at) ≡ false → insert ms at n ≡ with_number n ms
placed_at ms n at is missing = ap (λ k. insert ms k n) is ∙ placed ms n (ap (λ k. is_number n (slice_get ms k)) (sym is) ∙ missing)
