-- What an operation that breaks no rule has at its regions, and lists of types.
use Rattle.std.proofs.Common.{◌≡◌, ℕ, zero, suc, ◌+◌, ◌&&◌, not, Bool, true, false, List, [], ◌∷◌, length, Option, Some, refl, sym, ap, ap₂, subst, arith}
use Rattle.std.specs.Prelude.{slice_get}
use Rattle.ir_forms.specs.declared.types.Ty.{Ty}
use Rattle.ir_forms.specs.declared.types.Ty.TheVariants as ty
use Rattle.ir_forms.specs.declared.types.ValTy.TheVariants as val
use Rattle.ir_verify.specs.Breaks.{some_from}
use Rattle.ir_verify.specs.Rules.{is_asked}
use Rattle.ir_verify.specs.Types.{holds}
use Rattle.low_forms.specs.Registers.{every}
use Rattle.low_forms.proofs.Words.{and_both}
use Rattle.exec_outline.specs.Shape.{held}
use Rattle.mlir_print.specs.Printable.{typed_by}
use Rattle.sound_laws.proofs.Sight.{or_left, or_right}
use Rattle.plain_rows.proofs.Same.{type_same}

-- ---- tests

pub and_false : (a b : Bool) → a ≡ true → (a && not b) ≡ false → b ≡ true
and_false true true e h = refl
and_false true false e h = cc
and_false false b e h = cc

pub not_false : (b : Bool) → not b ≡ false → b ≡ true
not_false true h = refl
not_false false h = cc

-- no element passes a test that none does
none_from : {X : Type 0} → (test : ℕ → X → Bool) (k : ℕ) (xs : List X) → some_from test k xs ≡ false → (i : ℕ) (x : X) → slice_get xs i ≡ Some x → test (k + i) x ≡ false
none_from test k [] none i x at = cc
none_from test k (y ∷ xs) none zero x at =
    let same : y ≡ x = cc in
    let place : k ≡ k + zero = omega arith in
    subst (λ n. test n x ≡ false) place (subst (λ z. test k z ≡ false) same (or_left (test k y) (some_from test (k + 1) xs) none))
none_from test k (y ∷ xs) none (suc i) x at =
    let place : (k + 1) + i ≡ k + suc i = omega arith in
    subst (λ n. test n x ≡ false) place (none_from test (k + 1) xs (or_right (test k y) (some_from test (k + 1) xs) none) i x at)

pub none_here : {X : Type 0} → (test : ℕ → X → Bool) (xs : List X) → some_from test 0 xs ≡ false → (i : ℕ) (x : X) → slice_get xs i ≡ Some x → test i x ≡ false
none_here test xs none i x at = let place : 0 + i ≡ i = omega arith in subst (λ n. test n x ≡ false) place (none_from test 0 xs none i x at)

-- ---- lists of types

pub same_list : {A : Type 0} → (ts us : List A) → length ts ≡ length us → ((i : ℕ) (t u : A) → slice_get ts i ≡ Some t → slice_get us i ≡ Some u → t ≡ u) → ts ≡ us
same_list [] [] len each = refl
same_list [] (u ∷ us) len each = absurd (omega (arith, len))
same_list (t ∷ ts) [] len each = absurd (omega (arith, len))
same_list {A = A} (t ∷ ts) (u ∷ us) len each = ap₂ (λ (x : A) (xs : List A). x ∷ xs) (each 0 t u refl refl) (same_list ts us (omega (arith, len)) (λ i x y at there. each (suc i) x y at there))

pub every_one : {A : Type 0} → (test : A → Bool) (xs : List A) → ((i : ℕ) (x : A) → slice_get xs i ≡ Some x → test x ≡ true) → every test xs ≡ true
every_one test [] each = refl
every_one test (x ∷ xs) each = and_both (test x) (every test xs) (each 0 x refl) (every_one test xs (λ i y at. each (suc i) y at))

pub asked_so : (o : Option Ty) (t u : Ty) → o ≡ Some u → is_asked o t ≡ true → t ≡ u
asked_so o t u at is = sym (type_same u t (subst (λ (x : Option Ty). is_asked x t ≡ true) at is))

pub typed_all : (n : ℕ) (ts : List Ty) → n ≡ length ts → typed_by n ts ≡ ts
typed_all zero [] is = refl
typed_all zero (t ∷ ts) is = absurd (omega (arith, is))
typed_all (suc n) [] is = absurd (omega (arith, is))
typed_all (suc n) (t ∷ ts) is = ap (λ (us : List Ty). t ∷ us) (typed_all n ts (omega (arith, is)))

-- what a value holds
pub held_is : (t u : Ty) → holds t u ≡ true → u ≡ held t
held_is (ty.Value (val.Int v)) (ty.Int w) is = sym (type_same (ty.Int v) (ty.Int w) is)
held_is (ty.Value val.Index) ty.Index is = refl
held_is (ty.Value (val.Memref m)) (ty.Memref n) is = sym (type_same (ty.Memref m) (ty.Memref n) is)
held_is t u is = cc
