-- Calls that break no rule.
use Rattle.std.proofs.Common.{◌≡◌, ℕ, zero, suc, true, List, [], ◌∷◌, length, Option, Some, None, refl, sym, ap, ap₂, ◌∙◌, subst, arith}
use Rattle.std.specs.Prelude.{slice_get}
use Rattle.std.specs.Option.{option_map, is_some}
use Rattle.op_table.specs.declared.form.Form.{Form}
use Rattle.op_table.specs.declared.form.Form.TheVariants as form_is
use Rattle.op_table.specs.declared.kind.OpKind.{OpKind}
use Rattle.op_table.specs.declared.kind.OpKind.TheVariants as op
use Rattle.op_table.specs.Rows.{row_of}
use Rattle.ir_forms.specs.declared.ops.Func.{Func}
use Rattle.ir_forms.specs.declared.types.Ty.{Ty}
use Rattle.ir_forms.specs.Ops.{kind_of, operands_of, written_of}
use Rattle.ir_verify.specs.Breaks.{is_call}
use Rattle.ir_verify.specs.Forms.{form, form_of}
use Rattle.ir_verify.specs.Places.{Spot, types_of}
use Rattle.ir_verify.specs.Rules.{counted, operands_given, types_given, written_asked, param_type, param_length, result_type, result_length, is_asked}
use Rattle.mlir_print.specs.Printable.{HasParts}
use Rattle.scf_blocks.specs.declared.role.Role.TheVariants as role
use Rattle.scf_blocks.specs.Tree.{Var, types_in, role_by}
use Rattle.scf_blocks.proofs.Counts.{length_types}
use Rattle.plain_rows.specs.Laws.{IsFine, CallFits, CallsFit}
use Rattle.plain_rows.proofs.Same.{type_same, are_types}
use Rattle.plain_rows.proofs.Facts.{counts, has_callee}
use Rattle.plain_rows.proofs.Lone.{operands_are, written_so, result_so}
use Rattle.typed_rows.specs.Typed.{AreTypes}

same_list : (ts us : List Ty) → length ts ≡ length us → ((i : ℕ) (t u : Ty) → slice_get ts i ≡ Some t → slice_get us i ≡ Some u → t ≡ u) → ts ≡ us
same_list [] [] len each = refl
same_list [] (u ∷ us) len each = absurd (omega (arith, len))
same_list (t ∷ ts) [] len each = absurd (omega (arith, len))
same_list (t ∷ ts) (u ∷ us) len each = ap₂ (λ (x : Ty) (xs : List Ty). x ∷ xs) (each 0 t u refl refl) (same_list ts us (omega (arith, len)) (λ i x y at there. each (suc i) x y at there))

some_of : (o : Option Func) → is_some o ≡ true → (f : Func) × (o ≡ Some f)
some_of None is = cc
some_of (Some f) is = (f, refl)

-- the type of a parameter
param_at : (ps : List Var) (i : ℕ) (u : Ty) → slice_get (types_in ps) i ≡ Some u → option_map (λ (p : Var). p.1) (slice_get ps i) ≡ Some u
param_at [] i u at = cc
param_at (p ∷ ps) zero u at = at
param_at (p ∷ ps) (suc i) u at = param_at ps i u at

only_call : (kind : OpKind) → form_of kind ≡ form_is.Call → kind ≡ op.FuncCall
only_call op.FuncCall e = refl
only_call _ e = cc

asked_so : (o : Option Ty) (t u : Ty) → o ≡ Some u → is_asked o t ≡ true → t ≡ u
asked_so o t u at is = sym (type_same u t (subst (λ (x : Option Ty). is_asked x t ≡ true) at is))

module _ (s : Spot) (fine : IsFine s) where
  operands_by : (kind : OpKind) → kind_of s.place.op ≡ kind → form_of kind ≡ form_is.Call → length (operands_of s.place.op) ≡ length (written_of s.place.op)
  operands_by kind e g =
      (counts s fine).operands ∙ ap (λ k. counted (row_of k).operands (operands_given (row_of k).form s.place.op)) (e ∙ only_call kind g)

  types_by : (kind : OpKind) → kind_of s.place.op ≡ kind → form_of kind ≡ form_is.Call → length (types_of s.place.op) ≡ result_length s.place.callee (length (types_of s.place.op))
  types_by kind e g =
      (counts s fine).types ∙ ap (λ k. counted (row_of k).results (types_given (row_of k).form s.place)) (e ∙ only_call kind g)

  call_fits : form s.place.op ≡ form_is.Call → HasParts form_is.Call s.place.op → CallFits s
  call_fits g parts =
      let ts = parts.1 in
      let us = parts.2 in
      let h = parts.7 in
      let c = some_of s.place.callee (has_callee s fine (ap is_call g)) in
      let f = c.0 in
      let long : length (written_of s.place.op) ≡ length f.params = (counts s fine).written ∙ ap (λ k. written_asked k s.place) g ∙ ap (λ o. param_length o (length (written_of s.place.op))) c.1 in
      let many : length (types_of s.place.op) ≡ length f.results = types_by (kind_of s.place.op) refl g ∙ ap (λ o. result_length o (length (types_of s.place.op))) c.1 in
      let size : length (types_in f.params) ≡ length f.params = length_types f.params in
      let taken : written_of s.place.op ≡ types_in f.params = same_list (written_of s.place.op) (types_in f.params) (long ∙ sym size) (λ i t u at there.
      asked_so (param_type s.place.callee i) t u (ap (λ o. param_type o i) c.1 ∙ param_at f.params i u there) (written_so s fine form_is.Call g i t at)) in
      let given : types_of s.place.op ≡ f.results = same_list (types_of s.place.op) f.results many (λ i t u at there.
      asked_so (result_type s.place.callee i) t u (ap (λ o. result_type o i) c.1 ∙ there) (result_so s fine form_is.Call g i t at)) in
      record {
        func = f;
        called = c.1;
        has = operands_are s fine form_is.Call g (types_in f.params) (operands_by (kind_of s.place.op) refl g ∙ ap length taken) (λ i t u at fit.
            asked_so (slice_get (written_of s.place.op) i) t u (ap (λ (ws : List Ty). slice_get ws i) taken ∙ at) fit);
        results = given;
        are_taken = subst AreTypes (sym h.written_are ∙ taken) (are_types ts parts.4);
        are_given = subst AreTypes (sym h.types_are ∙ given) (are_types us parts.5);
      }

  call_by : (g : Form) (kind : OpKind) → form s.place.op ≡ g → role_by g kind ≡ role.Call → HasParts g s.place.op → CallFits s
  call_by form_is.Call kind e is parts = call_fits e parts
  call_by _ kind e is parts = cc

pub calls_fit : CallsFit
calls_fit s fine parts is = call_by s fine (form s.place.op) (kind_of s.place.op) refl is parts
