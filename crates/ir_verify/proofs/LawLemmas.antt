-- The laws of modules that break no rule.
use Rattle.std.proofs.Common.{◌≡◌, ℕ, zero, suc, ◌+◌, ◌||◌, not, Bool, true, false, List, [], ◌∷◌, Option, Some, None, refl, sym, ap, arith, subst, zero-add}
use Rattle.std.specs.Prelude.{slice_get}
use Rattle.std.specs.Option.{is_some}
use Rattle.ir_forms.specs.declared.types.Ty.{Ty}
use Rattle.ir_forms.specs.Ops.{operands_of}
use Rattle.ir_verify.specs.declared.fault.VerifyKind.{VerifyKind}
use Rattle.ir_verify.specs.declared.fault.VerifyKind.TheVariants.{Undefined, TypeMismatch}
use Rattle.ir_verify.specs.Breaks.{breaks, number_of, own_breaks, some_from, some_at, operand_breaks, misfits}
use Rattle.ir_verify.specs.Forms.{form}
use Rattle.ir_verify.specs.Places.{Spot}
use Rattle.ir_verify.specs.Rules.{operand_fits}
use Rattle.ir_verify.specs.Scopes.{lookup}
use Rattle.ir_verify.specs.Verdict.{at_operation}
use Rattle.ir_verify.specs.Laws.{BreaksNothing, Fits, OperandsFit}

pub breaks_nothing : BreaksNothing
breaks_nothing funcs sound s place kind = step (breaks kind s) refl
  where
    step : (b : Bool) → breaks kind s ≡ b → b ≡ false
    step false is = refl
    step true is = absurd (sound (record { op = number_of s.place.op; kind = kind }) (at_operation place.k place.f place.is_called place.i s kind place.at place.tells place.stands is))

right : (a b : Bool) → (a || b) ≡ false → b ≡ false
right true b h = cc
right false b h = h

left : (a b : Bool) → (a || b) ≡ false → a ≡ false
left true b h = cc
left false b h = refl

-- no element passes a test that none does
none_at : {X : Type 0} → (test : ℕ → X → Bool) (k : ℕ) (xs : List X) → some_from test k xs ≡ false → (i : ℕ) (x : X) → slice_get xs i ≡ Some x → test (i + k) x ≡ false
none_at test k [] none i x at = cc
none_at test k (y ∷ xs) none zero x at =
    let same : y ≡ x = cc in
    subst (λ n. test n x ≡ false) (sym (zero-add k)) (subst (λ z. test k z ≡ false) same (left (test k y) (some_from test (k + 1) xs) none))
none_at test k (y ∷ xs) none (suc i) x at =
    let place : i + (k + 1) ≡ suc i + k = omega arith in
    subst (λ n. test n x ≡ false) place (none_at test (k + 1) xs (right (test k y) (some_from test (k + 1) xs) none) i x at)

operands_pass : (s : Spot) (kind : VerifyKind) → breaks kind s ≡ false → some_at (operand_breaks kind s.seen s.place) (operands_of s.place.op) ≡ false
operands_pass s kind fine = left _ _ (right (own_breaks kind s.place) _ fine)

not_false : (b : Bool) → not b ≡ false → b ≡ true
not_false true h = refl
not_false false h = cc

pub operands_fit : OperandsFit
operands_fit funcs sound s place i v at = step (lookup s.seen v.0) refl
  where
    there : i + 0 ≡ i
    there = omega arith

    visible : not (is_some (lookup s.seen v.0)) ≡ false
    visible = none_at (operand_breaks Undefined s.seen s.place) 0 (operands_of s.place.op) (operands_pass s Undefined (breaks_nothing funcs sound s place Undefined)) i v at

    typed : misfits (operand_fits (form s.place.op) s.place i) (lookup s.seen v.0) ≡ false
    typed = subst (λ n. misfits (operand_fits (form s.place.op) s.place n) (lookup s.seen v.0) ≡ false) there
        (none_at (operand_breaks TypeMismatch s.seen s.place) 0 (operands_of s.place.op) (operands_pass s TypeMismatch (breaks_nothing funcs sound s place TypeMismatch)) i v at)

    step : (o : Option Ty) → lookup s.seen v.0 ≡ o → Fits s i v
    step None is = let hidden : not (is_some (lookup s.seen v.0)) ≡ true = ap (λ (o : Option Ty). not (is_some o)) is in let seen : not (is_some (lookup s.seen v.0)) ≡ false = visible in cc
    step (Some t) is = record {
      type = t;
      visible = is;
      fits = not_false (operand_fits (form s.place.op) s.place i t) (subst (λ (o : Option Ty). misfits (operand_fits (form s.place.op) s.place i) o ≡ false) is typed);
    }
