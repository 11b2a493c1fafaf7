-- Tests of lists, and what stands at a place.
use Rattle.std.proofs.Common.{◌≡◌, ◌⊎◌, inl, inr, ℕ, zero, suc, ◌&&◌, Bool, true, false, List, [], ◌∷◌, map, Some, refl, ap, ◌∙◌}
use Rattle.std.specs.Prelude.{slice_get}
use Rattle.low_flow.specs.Lists.{has, list_at}
use Rattle.low_forms.specs.Registers.{every}

pub is_either : (b : Bool) → (b ≡ true) ⊎ (b ≡ false)
is_either true = inl refl
is_either false = inr refl

pub and_left : (a b : Bool) → (a && b) ≡ true → a ≡ true
and_left true b is = refl
and_left false b is = cc

pub and_right : (a b : Bool) → (a && b) ≡ true → b ≡ true
and_right true b is = is
and_right false b is = cc

pub and_both : (a b : Bool) → a ≡ true → b ≡ true → (a && b) ≡ true
and_both true b is both = both
and_both false b is both = cc

pub every_same : {A : Type 0} → (p q : A → Bool) (xs : List A) → ((x : A) → p x ≡ q x) → every p xs ≡ every q xs
every_same p q [] same = refl
every_same p q (x ∷ xs) same = ap (λ b. b && every p xs) (same x) ∙ ap (λ b. q x && b) (every_same p q xs same)

-- what a mapped list has at a place
pub mapped_at : {A : Type 0} → (h : A → List ℕ) (xs : List A) (k : ℕ) (x : A) → slice_get xs k ≡ Some x → list_at (map h xs) k ≡ h x
mapped_at h [] k x at = cc
mapped_at h (y ∷ xs) zero x at = (let same : y ≡ x = cc in ap h same)
mapped_at h (y ∷ xs) (suc k) x at = mapped_at h xs k x at

pub record Stands {A : Type 0} (h : A → List ℕ) (xs : List A) (k r : ℕ) : Type 0 where
  pub here : A
  pub at : slice_get xs k ≡ Some here
  pub holds : has r (h here) ≡ true

pub mapped_has : {A : Type 0} → (h : A → List ℕ) (xs : List A) (k r : ℕ) → has r (list_at (map h xs) k) ≡ true → Stands h xs k r
mapped_has h [] k r is = cc
mapped_has h (x ∷ xs) zero r is = record { here = x; at = refl; holds = is }
mapped_has h (x ∷ xs) (suc k) r is =
    let s : Stands h xs k r = mapped_has h xs k r is in
    record { here = s.here; at = s.at; holds = s.holds }
