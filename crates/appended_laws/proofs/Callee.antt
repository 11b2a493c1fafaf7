-- An operation that is no call breaks the same rules whatever function it is said to call.
use Rattle.std.proofs.Common.{◌≡◌, ℕ, ◌+◌, ◌==◌, ◌&&◌, ◌||◌, not, Bool, false, List, [], ◌∷◌, length, Option, Some, None, refl, sym, ap, ap₂, ◌∙◌}
use Rattle.std.specs.Option.{is_some}
use Rattle.op_table.specs.declared.form.Form.{Form}
use Rattle.op_table.specs.declared.form.Form.TheVariants.{Binary, Call, TryCall}
use Rattle.ir_forms.specs.declared.ops.Op.{Op}
use Rattle.ir_forms.specs.declared.ops.Func.{Func}
use Rattle.ir_forms.specs.declared.ops.ValueNo.{ValueNo}
use Rattle.ir_forms.specs.declared.types.Ty.{Ty}
use Rattle.ir_forms.specs.Ops.{operands_of, regions_of, results_of, written_of}
use Rattle.ir_verify.specs.declared.fault.VerifyKind.{VerifyKind}
use Rattle.ir_verify.specs.declared.fault.VerifyKind.TheVariants.{Undefined, TypeMismatch, Terminator, UnknownFunc, Arity, AsyncInMemref, BlockingAwait}
use Rattle.ir_verify.specs.Breaks.{is_call, misfits, miscounts, operand_breaks, own_breaks, result_breaks, some_from, tries_results, written_breaks}
use Rattle.ir_verify.specs.Forms.{form, row_at}
use Rattle.ir_verify.specs.Places.{Around, Place, Seen, types_of}
use Rattle.ir_verify.specs.Rules.{counted, groups_fit, operand_fits, operands_asked, result_fits, types_given, written_asked, written_fits}
use Rattle.ir_verify.specs.Scopes.{lookup}
use Rattle.sound_laws.specs.Extended.{IsFine}
use Rattle.sound_laws.proofs.Sound.{Parts, from_parts, parted}

some_same : {X : Type 0} (f g : ℕ → X → Bool) → ((i : ℕ) (x : X) → g i x ≡ f i x) → (k : ℕ) (xs : List X) → some_from g k xs ≡ some_from f k xs
some_same f g same k [] = refl
some_same f g same k (x ∷ xs) = ap (λ b. b || some_from g (k + 1) xs) (same k x) ∙ ap (λ b. f k x || b) (some_same f g same (k + 1) xs)

module _ (around : Around) (last : Bool) (op : Op) where
  abbrev calling : Option Func → Place
  calling c = record { around = around; is_last = last; callee = c; op = op }

  module _ (c d : Option Func) where
    operands_same : (f : Form) (i : ℕ) (t : Ty) → operand_fits f (calling d) i t ≡ operand_fits f (calling c) i t
    operands_same Binary i t = refl
    operands_same _ i t = refl

    written_same : (f : Form) (i : ℕ) (t : Ty) → is_call f ≡ false → written_fits f (calling d) i t ≡ written_fits f (calling c) i t
    written_same Call i t e = cc
    written_same TryCall i t e = cc
    written_same _ i t e = refl

    asked_same : (f : Form) → is_call f ≡ false → written_asked f (calling d) ≡ written_asked f (calling c)
    asked_same Call e = cc
    asked_same TryCall e = cc
    asked_same _ e = refl

    results_same : (f : Form) (i : ℕ) (t : Ty) → is_call f ≡ false → result_fits f (calling d) i t ≡ result_fits f (calling c) i t
    results_same Call i t e = cc
    results_same _ i t e = refl

    types_same : (f : Form) → is_call f ≡ false → types_given f (calling d) ≡ types_given f (calling c)
    types_same Call e = cc
    types_same _ e = refl

    tries_same : (f : Form) → is_call f ≡ false → tries_results f d ≡ tries_results f c
    tries_same TryCall e = cc
    tries_same _ e = refl

    module _ (plain : is_call (form op) ≡ false) where
      counts_same : miscounts (calling d) ≡ miscounts (calling c)
      counts_same =
          ap₂ (λ (w t : ℕ). not (length (operands_of op) == operands_asked op) || (not (length (written_of op) == w)
          || (not (length (types_of op) == counted (row_at op).results t) || (not (length (results_of op) == length (types_of op))
          || (not (length (regions_of op) == (row_at op).regions) || not (groups_fit (form op) op))))))
          (asked_same (form op) plain) (types_same (form op) plain)

      own_same : (kind : VerifyKind) → own_breaks kind (calling d) ≡ own_breaks kind (calling c)
      own_same Undefined = refl
      own_same TypeMismatch = refl
      own_same Terminator = refl
      own_same UnknownFunc = ap (λ b. b && not (is_some d)) plain ∙ sym (ap (λ b. b && not (is_some c)) plain)
      own_same Arity = ap₂ (λ (a b : Bool). a || b) counts_same (tries_same (form op) plain)
      own_same AsyncInMemref = refl
      own_same BlockingAwait = refl

      operand_same : (kind : VerifyKind) (seen : Seen) (i : ℕ) (v : ValueNo) → operand_breaks kind seen (calling d) i v ≡ operand_breaks kind seen (calling c) i v
      operand_same TypeMismatch seen i v = step (lookup seen v.0)
        where
          step : (o : Option Ty) → misfits (operand_fits (form op) (calling d) i) o ≡ misfits (operand_fits (form op) (calling c) i) o
          step None = refl
          step (Some t) = ap (λ b. not b) (operands_same (form op) i t)
      operand_same _ seen i v = refl

      written_type_same : (kind : VerifyKind) (i : ℕ) (t : Ty) → written_breaks kind (calling d) i t ≡ written_breaks kind (calling c) i t
      written_type_same TypeMismatch i t = ap (λ b. not b) (written_same (form op) i t plain)
      written_type_same _ i t = refl

      result_same : (kind : VerifyKind) (i : ℕ) (t : Ty) → result_breaks kind (calling d) i t ≡ result_breaks kind (calling c) i t
      result_same TypeMismatch i t = ap (λ b. not b) (results_same (form op) i t plain)
      result_same _ i t = refl

      pub fine_whatever : (seen : Seen) → IsFine (record { seen = seen; place = calling c }) → IsFine (record { seen = seen; place = calling d })
      fine_whatever seen fine kind =
          let p : Parts (record { seen = seen; place = calling c }) kind = parted (record { seen = seen; place = calling c }) kind (fine kind) in
          from_parts (record { seen = seen; place = calling d }) kind (record {
            own = own_same kind ∙ p.own;
            operands = some_same (operand_breaks kind seen (calling c)) (operand_breaks kind seen (calling d)) (operand_same kind seen) 0 (operands_of op) ∙ p.operands;
            written = some_same (written_breaks kind (calling c)) (written_breaks kind (calling d)) (written_type_same kind) 0 (written_of op) ∙ p.written;
            results = some_same (result_breaks kind (calling c)) (result_breaks kind (calling d)) (result_same kind) 0 (types_of op) ∙ p.results;
            regions = p.regions;
          })
