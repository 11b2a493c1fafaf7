-- Branches and loops that break no rule.
use Rattle.std.proofs.Common.{◌≡◌, ℕ, zero, suc, ◌+◌, true, List, [], ◌∷◌, length, map, Some, refl, sym, ap, ap₂, ◌∙◌, subst, arith}
use Rattle.std.specs.Prelude.{slice_get}
use Rattle.op_table.specs.declared.form.Form.{Form}
use Rattle.op_table.specs.declared.form.Form.TheVariants as form_is
use Rattle.op_table.specs.declared.kind.OpKind.{OpKind}
use Rattle.op_table.specs.declared.kind.OpKind.TheVariants as op
use Rattle.op_table.specs.Rows.{row_of}
use Rattle.ir_forms.specs.declared.ops.Region.{Region}
use Rattle.ir_forms.specs.declared.ops.ValueNo.{ValueNo}
use Rattle.ir_forms.specs.declared.types.Ty.{Ty}
use Rattle.ir_forms.specs.declared.types.Ty.TheVariants as ty
use Rattle.ir_forms.specs.Ops.{kind_of, operands_of, written_of, regions_of}
use Rattle.ir_verify.specs.declared.fault.VerifyKind.TheVariants.{Arity, TypeMismatch}
use Rattle.ir_verify.specs.Breaks.{region_breaks, param_breaks}
use Rattle.ir_verify.specs.Forms.{form, form_of}
use Rattle.ir_verify.specs.Places.{Spot, types_of, params_of}
use Rattle.ir_verify.specs.Rules.{counted, operands_given, operand_fits, params_fit, param_fits}
use Rattle.mlir_print.specs.Printable.{HasParts, IsFor, IsWhile, param_types, typed_by}
use Rattle.scf_blocks.specs.declared.role.Role.TheVariants as role
use Rattle.scf_blocks.specs.Code.{truth}
use Rattle.scf_blocks.specs.Tree.{role_by}
use Rattle.typed_rows.specs.Typed.{AreTypes}
use Rattle.sound_laws.proofs.Sight.{equal}
use Rattle.sound_laws.proofs.Sound.{parted}
use Rattle.plain_rows.specs.Laws.{IsFine}
use Rattle.plain_rows.proofs.Facts.{counts}
use Rattle.plain_rows.proofs.Same.{are_types, index_is, truth_is}
use Rattle.plain_rows.proofs.Lone.{asked_is, operands_are}
use Rattle.outlined_types.specs.Forms.{ChoiceFits, ChoicesFit, CountedFits, LoopsFit, TestedFits, TestedLoopsFit}
use Rattle.outlined_types.proofs.Words.{none_here, not_false, same_list, typed_all}

only_while : (kind : OpKind) → form_of kind ≡ form_is.While → kind ≡ op.ScfWhile
only_while op.ScfWhile e = refl
only_while _ e = cc

only_for : (kind : OpKind) → form_of kind ≡ form_is.For → kind ≡ op.ScfFor
only_for op.ScfFor e = refl
only_for _ e = cc

-- what a mapped list has at a place comes from what stands there
record From {A B : Type 0} (h : A → B) (xs : List A) (i : ℕ) (y : B) : Type 0 where
  here : A
  at : slice_get xs i ≡ Some here
  gives : h here ≡ y

from_mapped : {A B : Type 0} → (h : A → B) (xs : List A) (i : ℕ) (y : B) → slice_get (map h xs) i ≡ Some y → From h xs i y
from_mapped h [] i y at = cc
from_mapped h (x ∷ xs) zero y at = record { here = x; at = refl; gives = cc }
from_mapped h (x ∷ xs) (suc i) y at = let r = from_mapped h xs i y at in record { here = r.here; at = r.at; gives = r.gives }

mapped_length : {A B : Type 0} → (h : A → B) (xs : List A) → length (map h xs) ≡ length xs
mapped_length h [] = refl
mapped_length h (x ∷ xs) = ap suc (mapped_length h xs)

module _ (s : Spot) (fine : IsFine s) where
  chosen : form s.place.op ≡ form_is.If → HasParts form_is.If s.place.op → ChoiceFits s
  chosen e parts =
      let h = parts.2 in
      record {
        has = operands_are s fine form_is.If e (truth ∷ []) h.operand_count each;
        params = h.params_are;
        are_types = subst AreTypes (sym h.types_are) (are_types parts.0 parts.1);
      }
    where
      each : (i : ℕ) (t u : Ty) → slice_get (truth ∷ []) i ≡ Some u → operand_fits form_is.If s.place i t ≡ true → t ≡ u
      each zero t u at fit = (let same : truth ≡ u = cc in truth_is t fit ∙ same)
      each (suc i) t u at fit = cc

  choice_by : (g : Form) (kind : OpKind) → form s.place.op ≡ g → role_by g kind ≡ role.Choice → HasParts g s.place.op → ChoiceFits s
  choice_by form_is.If kind e is parts = chosen e parts
  choice_by _ kind e is parts = cc

  bounds_by : (kind : OpKind) → kind_of s.place.op ≡ kind → form_of kind ≡ form_is.For → length (operands_of s.place.op) ≡ length (types_of s.place.op) + 3
  bounds_by kind e g = (counts s fine).operands ∙ ap (λ k. counted (row_of k).operands (operands_given (row_of k).form s.place.op)) (e ∙ only_for kind g)

  looped : form s.place.op ≡ form_is.For → IsFor s.place.op → CountedFits s
  looped e parts =
      let h = parts.4 in
      let n = parts.0 in
      let ts = parts.1 in
      let all : length (operands_of s.place.op) ≡ length (types_of s.place.op) + 3 = bounds_by (kind_of s.place.op) refl e in
      let len : length (operands_of s.place.op) ≡ 3 + n = h.operand_count in
      let long : length (types_of s.place.op) ≡ length ts = ap (λ (ws : List Ty). length ws) h.types_are in
      let many : n ≡ length ts = omega (arith, all, len, long) in
      record {
        has = operands_are s fine form_is.For e (ty.Index ∷ ty.Index ∷ ty.Index ∷ types_of s.place.op) (omega (arith, all)) each;
        params = h.params_are ∙ ap (λ (us : List Ty). (ty.Index ∷ us) ∷ []) (typed_all n ts many ∙ sym h.types_are);
        are_types = subst AreTypes (sym h.types_are) (are_types ts parts.2);
      }
    where
      each : (i : ℕ) (t u : Ty) → slice_get (ty.Index ∷ ty.Index ∷ ty.Index ∷ types_of s.place.op) i ≡ Some u → operand_fits form_is.For s.place i t ≡ true → t ≡ u
      each zero t u at fit = (let same : ty.Index ≡ u = cc in index_is t fit ∙ same)
      each (suc zero) t u at fit = (let same : ty.Index ≡ u = cc in index_is t fit ∙ same)
      each (suc (suc zero)) t u at fit = (let same : ty.Index ≡ u = cc in index_is t fit ∙ same)
      each (suc (suc (suc i))) t u at fit = asked_is (types_of s.place.op) i t u at fit

  counted_by : (g : Form) (kind : OpKind) → form s.place.op ≡ g → role_by g kind ≡ role.Counted → HasParts g s.place.op → CountedFits s
  counted_by form_is.For kind e is parts = looped e parts
  counted_by _ kind e is parts = cc

  -- the second region of a tested loop takes the results' types
  passed : (e : form s.place.op ≡ form_is.While) (rs : List Region) (xs ps : List Ty) → regions_of s.place.op ≡ rs → map param_types rs ≡ xs ∷ ps ∷ [] → ps ≡ types_of s.place.op
  passed e [] xs ps are is = cc
  passed e (a ∷ []) xs ps are is = cc
  passed e (a ∷ b ∷ c ∷ rs) xs ps are is = cc
  passed e (a ∷ b ∷ []) xs ps are is = sym here ∙ same_list (param_types b) (types_of s.place.op) (mapped_length (λ (p : ValueNo × Ty). p.1) (params_of b) ∙ long) each
    where
      here : param_types b ≡ ps
      here = cc

      at_one : slice_get (regions_of s.place.op) 1 ≡ Some b
      at_one = ap (λ (ys : List Region). slice_get ys 1) are

      long : length (params_of b) ≡ length (types_of s.place.op)
      long =
          equal (length (params_of b)) (length (types_of s.place.op))
          (subst (λ (k : Form). params_fit k s.place.op 1 (length (params_of b)) ≡ true) e
          (not_false (params_fit (form s.place.op) s.place.op 1 (length (params_of b))) (none_here (region_breaks Arity s.place.op) (regions_of s.place.op) (parted s Arity (fine Arity)).regions 1 b at_one)))

      each : (i : ℕ) (t u : Ty) → slice_get (param_types b) i ≡ Some t → slice_get (types_of s.place.op) i ≡ Some u → t ≡ u
      each i t u at there =
          let f : From (λ (p : ValueNo × Ty). p.1) (params_of b) i t = from_mapped (λ (p : ValueNo × Ty). p.1) (params_of b) i t at in
          let fit : param_fits form_is.While s.place.op 1 i f.here.1 ≡ true =
          subst (λ (k : Form). param_fits k s.place.op 1 i f.here.1 ≡ true) e
          (not_false (param_fits (form s.place.op) s.place.op 1 i f.here.1)
          (none_here (param_breaks TypeMismatch s.place.op 1) (params_of b) (none_here (region_breaks TypeMismatch s.place.op) (regions_of s.place.op) (parted s TypeMismatch (fine TypeMismatch)).regions 1 b at_one) i f.here f.at)) in
          sym f.gives ∙ asked_is (types_of s.place.op) i f.here.1 u there fit

  operands_by : (kind : OpKind) → kind_of s.place.op ≡ kind → form_of kind ≡ form_is.While → length (operands_of s.place.op) ≡ length (written_of s.place.op)
  operands_by kind e g = (counts s fine).operands ∙ ap (λ k. counted (row_of k).operands (operands_given (row_of k).form s.place.op)) (e ∙ only_while kind g)

  tested : form s.place.op ≡ form_is.While → IsWhile s.place.op → TestedFits s
  tested e parts =
      let h = parts.6 in
      let ws = parts.0 in
      let len : length (operands_of s.place.op) ≡ length (written_of s.place.op) = operands_by (kind_of s.place.op) refl e in
      let first : typed_by (length (operands_of s.place.op)) ws ≡ written_of s.place.op = typed_all (length (operands_of s.place.op)) ws (len ∙ ap (λ (us : List Ty). length us) h.written_are) ∙ sym h.written_are in
      let second : parts.2 ≡ types_of s.place.op = passed e (regions_of s.place.op) (typed_by (length (operands_of s.place.op)) ws) parts.2 refl h.params_are in
      record {
        has = operands_are s fine form_is.While e (written_of s.place.op) len (λ i t u at fit. asked_is (written_of s.place.op) i t u at fit);
        params = h.params_are ∙ ap₂ (λ (a b : List Ty). a ∷ b ∷ []) first second;
        are_taken = subst AreTypes (sym h.written_are) (are_types ws parts.3);
        are_given = subst AreTypes (sym h.types_are) (are_types parts.1 parts.4);
      }

  tested_by : (g : Form) (kind : OpKind) → form s.place.op ≡ g → role_by g kind ≡ role.Tested → HasParts g s.place.op → TestedFits s
  tested_by form_is.While kind e is parts = tested e parts
  tested_by _ kind e is parts = cc

pub choices_fit : ChoicesFit
choices_fit s fine parts is = choice_by s fine (form s.place.op) (kind_of s.place.op) refl is parts

pub loops_fit : LoopsFit
loops_fit s fine parts is = counted_by s fine (form s.place.op) (kind_of s.place.op) refl is parts

pub tested_loops_fit : TestedLoopsFit
tested_loops_fit s fine parts is = tested_by s fine (form s.place.op) (kind_of s.place.op) refl is parts
