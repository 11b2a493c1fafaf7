-- Two lists that are gone through together.
use Rattle.std.proofs.Common.{◌≡◌, ℕ, zero, suc, ◌+◌, ◌<◌, ◌≤◌, ◌&&◌, Bool, true, false, List, [], ◌∷◌, length, drop, Option, Some, refl, sym, ap, ◌∙◌, arith, subst}
use Rattle.std.specs.Prelude.{slice_get}
use Rattle.ir_forms.specs.declared.types.Ty.{Ty}
use Rattle.ir_verify.specs.Types.{same_type, holds}
use Rattle.low_forms.specs.declared.code.Reg.{Reg}
use Rattle.low_forms.specs.declared.code.LowFunc.{LowFunc}
use Rattle.low_forms.specs.Registers.{type_of, on_types, like_types, have_types, hold_types}
use Rattle.low_forms.specs.Fits.{same_reg, same_regs}

-- the test of two lists is that of their elements in pairs
pub record Pairs (A B : Type 0) : Type 0 where
  pub pair : Option A → Option B → Bool
  pub whole : List A → List B → Bool
  pub none : whole [] [] ≡ true
  pub more : (y : B) (ys : List B) → whole [] (y ∷ ys) ≡ false
  pub less : (x : A) (xs : List A) → whole (x ∷ xs) [] ≡ false
  pub both : (x : A) (xs : List A) (y : B) (ys : List B) → whole (x ∷ xs) (y ∷ ys) ≡ (pair (Some x) (Some y) && whole xs ys)

record Here {A : Type 0} (xs : List A) (k : ℕ) : Type 0 where
  item : A
  at : slice_get xs k ≡ Some item
  front : drop k xs ≡ item ∷ drop (suc k) xs

here_at : {A : Type 0} → (xs : List A) (k : ℕ) → k < length xs → Here xs k
here_at [] k inside = absurd (omega arith)
here_at (x ∷ xs) zero inside = record { item = x; at = refl; front = refl }
here_at (x ∷ xs) (suc k) inside =
    let h : Here xs k = here_at xs k (omega arith) in
    record { item = h.item; at = h.at; front = h.front }

drop_past : {A : Type 0} → (xs : List A) (k : ℕ) → length xs ≤ k → drop k xs ≡ []
drop_past [] zero past = refl
drop_past [] (suc k) past = refl
drop_past (x ∷ xs) zero past = absurd (omega arith)
drop_past (x ∷ xs) (suc k) past = drop_past xs k (omega arith)

module _ {A B : Type 0} (p : Pairs A B) where
  pub differ : (xs : List A) (ys : List B) → (length xs ≡ length ys → ⊥) → false ≡ p.whole xs ys
  differ [] [] other = absurd (other refl)
  differ [] (y ∷ ys) other = sym (p.more y ys)
  differ (x ∷ xs) [] other = sym (p.less x xs)
  differ (x ∷ xs) (y ∷ ys) other =
      sym (p.both x xs y ys ∙ ap (λ b. p.pair (Some x) (Some y) && b) (sym (differ xs ys (λ same. other (omega (arith, same))))) ∙ and_false (p.pair (Some x) (Some y)))
    where
      and_false : (b : Bool) → (b && false) ≡ false
      and_false true = refl
      and_false false = refl

  module _ (xs : List A) (ys : List B) (k : ℕ) (far : p.whole (drop k xs) (drop k ys) ≡ p.whole xs ys) where
    next : k < length xs → k < length ys → p.whole xs ys ≡ (p.pair (slice_get xs k) (slice_get ys k) && p.whole (drop (suc k) xs) (drop (suc k) ys))
    next x_in y_in =
        let x : Here xs k = here_at xs k x_in in
        let y : Here ys k = here_at ys k y_in in
        sym far ∙ ap (λ zs. p.whole zs (drop k ys)) x.front ∙ ap (λ zs. p.whole (x.item ∷ drop (suc k) xs) zs) y.front
        ∙ p.both x.item (drop (suc k) xs) y.item (drop (suc k) ys)
        ∙ ap (λ o. p.pair o (Some y.item) && p.whole (drop (suc k) xs) (drop (suc k) ys)) (sym x.at)
        ∙ ap (λ o. p.pair (slice_get xs k) o && p.whole (drop (suc k) xs) (drop (suc k) ys)) (sym y.at)

    pub fails : k < length xs → k < length ys → p.pair (slice_get xs k) (slice_get ys k) ≡ false → false ≡ p.whole xs ys
    fails x_in y_in is = sym (next x_in y_in ∙ ap (λ b. b && p.whole (drop (suc k) xs) (drop (suc k) ys)) is)

    pub goes_on : k < length xs → k < length ys → p.pair (slice_get xs k) (slice_get ys k) ≡ true → p.whole (drop (k + 1) xs) (drop (k + 1) ys) ≡ p.whole xs ys
    goes_on x_in y_in is =
        let one : suc k ≡ k + 1 = omega arith in
        subst (λ n. p.whole (drop n xs) (drop n ys) ≡ p.whole xs ys) one
        (sym (next x_in y_in ∙ ap (λ b. b && p.whole (drop (suc k) xs) (drop (suc k) ys)) is))

    pub ends : length xs ≤ k → length ys ≤ k → true ≡ p.whole xs ys
    ends x_past y_past = sym (sym far ∙ ap (λ zs. p.whole zs (drop k ys)) (drop_past xs k x_past) ∙ ap (λ zs. p.whole [] zs) (drop_past ys k y_past) ∙ p.none)

abbrev pub regs_paired : Pairs Reg Reg
regs_paired = record {
  pair = same_reg;
  whole = same_regs;
  none = refl;
  more = λ y ys. refl;
  less = λ x xs. refl;
  both = λ x xs y ys. refl;
}

abbrev pub likes_paired : LowFunc → LowFunc → Pairs Reg Reg
likes_paired f g = record {
  pair = λ r s. on_types same_type (type_of g s) (type_of f r);
  whole = λ rs ss. like_types f rs g ss;
  none = refl;
  more = λ y ys. refl;
  less = λ x xs. refl;
  both = λ x xs y ys. refl;
}

abbrev pub types_paired : LowFunc → Pairs Reg Ty
types_paired f = record {
  pair = λ r t. on_types same_type t (type_of f r);
  whole = have_types f;
  none = refl;
  more = λ y ys. refl;
  less = λ x xs. refl;
  both = λ x xs y ys. refl;
}

abbrev pub values_paired : LowFunc → Pairs Reg Ty
values_paired f = record {
  pair = λ r t. on_types holds (type_of f r) t;
  whole = hold_types f;
  none = refl;
  more = λ y ys. refl;
  less = λ x xs. refl;
  both = λ x xs y ys. refl;
}
