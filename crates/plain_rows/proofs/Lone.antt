-- What an operation that breaks no rule reads, where it stands.
use Rattle.std.proofs.Common.{◌≡◌, ◌<◌, ℕ, zero, suc, ◌||◌, nat_le, Bool, true, false, List, [], ◌∷◌, length, replicate, Option, Some, refl, sym, ap, ◌∙◌, subst, arith}
use Rattle.std.specs.Prelude.{slice_get}
use Rattle.std.proofs.lemmas.Bool.Decides.{nat_tests}
use Rattle.op_table.specs.declared.form.Form.{Form}
use Rattle.ir_forms.specs.declared.ops.Op.{Op}
use Rattle.ir_forms.specs.declared.ops.ValueNo.{ValueNo}
use Rattle.ir_forms.specs.declared.types.Ty.{Ty}
use Rattle.ir_forms.specs.declared.types.Ty.TheVariants as ty
use Rattle.ir_forms.specs.Ops.{operands_of, written_of}
use Rattle.ir_verify.specs.Forms.{form}
use Rattle.ir_verify.specs.Places.{Seen, Spot, types_of}
use Rattle.ir_verify.specs.Rules.{operand_fits, written_fits, result_fits, is_asked}
use Rattle.ir_verify.specs.Scopes.{lookup}
use Rattle.ir_verify.specs.Types.{is_index}
use Rattle.plain_rows.specs.Laws.{IsFine}
use Rattle.plain_rows.proofs.Facts.{Reads, reads, writes, gives_type}
use Rattle.typed_rows.specs.Typed.{HasTypes}
use Rattle.plain_rows.proofs.Same.{type_same, index_is}

-- ---- lists

pub types_from : (seen : Seen) (xs : List ValueNo) (ts : List Ty) → length xs ≡ length ts
    → ((i : ℕ) (x : ValueNo) (t : Ty) → slice_get xs i ≡ Some x → slice_get ts i ≡ Some t → lookup seen x.0 ≡ Some t) → HasTypes seen xs ts
types_from seen [] [] len each = tt
types_from seen [] (t ∷ ts) len each = absurd (omega (arith, len))
types_from seen (x ∷ xs) [] len each = absurd (omega (arith, len))
types_from seen (x ∷ xs) (t ∷ ts) len each = (each 0 x t refl refl, types_from seen xs ts (omega (arith, len)) (λ i y u at there. each (suc i) y u at there))

pub replicate_length : {A : Type 0} → (n : ℕ) (x : A) → length (replicate n x) ≡ n
replicate_length zero x = refl
replicate_length (suc n) x = ap suc (replicate_length n x)

pub replicate_at : {A : Type 0} → (n : ℕ) (x y : A) (i : ℕ) → slice_get (replicate n x) i ≡ Some y → (x ≡ y) × (i < n)
replicate_at zero x y i at = cc
replicate_at (suc n) x y zero at = (cc, omega arith)
replicate_at (suc n) x y (suc i) at = (let r = replicate_at n x y i at in (r.0, (let lt = r.1 in omega (arith, lt))))

-- ---- a spot

module _ (s : Spot) (fine : IsFine s) where
  abbrev o : Op
  o = s.place.op

  -- operands whose types are these, as the form asks
  pub operands_are : (g : Form) → form o ≡ g → (ts : List Ty) → length (operands_of o) ≡ length ts
      → ((i : ℕ) (t u : Ty) → slice_get ts i ≡ Some u → operand_fits g s.place i t ≡ true → t ≡ u) → HasTypes s.seen (operands_of o) ts
  operands_are g f ts len asked = types_from s.seen (operands_of o) ts len (λ i x u at there.
      (let r : Reads s fine i x = reads s fine i x at in
      r.visible ∙ ap (λ (t : Ty). Some t) (asked i r.type u there (subst (λ h. operand_fits h s.place i r.type ≡ true) f r.fits))))

  pub written_so : (g : Form) → form o ≡ g → (i : ℕ) (t : Ty) → slice_get (written_of o) i ≡ Some t → written_fits g s.place i t ≡ true
  written_so g f i t at = subst (λ h. written_fits h s.place i t ≡ true) f (writes s fine i t at)

  pub result_so : (g : Form) → form o ≡ g → (i : ℕ) (t : Ty) → slice_get (types_of o) i ≡ Some t → result_fits g s.place i t ≡ true
  result_so g f i t at = subst (λ h. result_fits h s.place i t ≡ true) f (gives_type s fine i t at)

-- a type that is asked by a list
pub asked_is : (ts : List Ty) (i : ℕ) (t u : Ty) → slice_get ts i ≡ Some u → is_asked (slice_get ts i) t ≡ true → t ≡ u
asked_is ts i t u at is = sym (type_same u t (subst (λ (x : Option Ty). is_asked x t ≡ true) at is))

-- one of so many indices
pub or_index : (n i : ℕ) (t : Ty) → i < n → (nat_le n i || is_index t) ≡ true → t ≡ ty.Index
or_index n i t lt is = by (nat_le n i) refl is
  where
    by : (b : Bool) → nat_le n i ≡ b → (b || is_index t) ≡ true → t ≡ ty.Index
    by true le h = absurd (le_not n i lt le)
      where
        le_not : (n i : ℕ) → i < n → nat_le n i ≡ true → ⊥
        le_not n i lt le = grind (arith, nat_tests)
    by false le h = index_is t h
