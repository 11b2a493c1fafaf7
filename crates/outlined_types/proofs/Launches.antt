-- Tried calls and launches that break no rule.
use Rattle.std.proofs.Common.{◌≡◌, ℕ, zero, suc, ◌+◌, ◌-◌, ◌==◌, nat_lt, not, if◌then◌else◌, Bool, true, false, List, [], ◌∷◌, ◌++◌, length, map, Option, Some, None, refl, sym, ap, ◌∙◌, subst, arith}
use Rattle.std.specs.Prelude.{slice_get}
use Rattle.std.specs.Option.{is_some, unwrap_or, option_map}
use Rattle.std.proofs.lemmas.Bool.Decides.{nat_tests}
use Rattle.op_table.specs.declared.form.Form.{Form}
use Rattle.op_table.specs.declared.form.Form.TheVariants as form_is
use Rattle.op_table.specs.declared.kind.OpKind.{OpKind}
use Rattle.op_table.specs.declared.kind.OpKind.TheVariants as op
use Rattle.op_table.specs.Rows.{row_of}
use Rattle.ir_forms.specs.declared.ops.Func.{Func}
use Rattle.ir_forms.specs.declared.types.Ty.{Ty}
use Rattle.ir_forms.specs.declared.types.Ty.TheVariants as ty
use Rattle.ir_forms.specs.Ops.{kind_of, operands_of, written_of}
use Rattle.ir_verify.specs.declared.fault.VerifyKind.TheVariants.{Arity}
use Rattle.ir_verify.specs.Breaks.{is_call, miscounts, tries_results, has_results}
use Rattle.ir_verify.specs.Forms.{form, form_of}
use Rattle.ir_verify.specs.Places.{Spot}
use Rattle.ir_verify.specs.Rules.{counted, operands_given, written_asked, param_type, param_length, is_asked, group, groups_of}
use Rattle.ir_verify.specs.Types.{is_token, is_value}
use Rattle.low_forms.specs.declared.code.LowKind.TheVariants.{Launch}
use Rattle.mlir_print.specs.Printable.{HasParts, IsCall, IsExecute, payload}
use Rattle.scf_blocks.specs.declared.role.Role.TheVariants as role
use Rattle.scf_blocks.specs.Code.{truth}
use Rattle.scf_blocks.specs.Tree.{Var, types_in, role_by}
use Rattle.scf_blocks.proofs.Counts.{length_types}
use Rattle.typed_rows.specs.Typed.{AreTypes, HasTypes}
use Rattle.exec_outline.specs.Shape.{tokens, dependency_count}
use Rattle.sound_laws.proofs.Sight.{equal, or_right}
use Rattle.sound_laws.proofs.Sound.{parted}
use Rattle.plain_rows.specs.Laws.{IsFine}
use Rattle.plain_rows.proofs.Facts.{counts, has_callee}
use Rattle.plain_rows.proofs.Same.{are_types, token_is}
use Rattle.plain_rows.proofs.Lone.{asked_is, operands_are, written_so, result_so, replicate_length}
use Rattle.outlined_types.specs.Forms.{LaunchFits, LaunchesFit, TriedFits, TriedCallsFit}
use Rattle.outlined_types.proofs.Words.{asked_so, every_one, not_false, same_list}

only_try : (kind : OpKind) → form_of kind ≡ form_is.TryCall → kind ≡ op.AioTryCall
only_try op.AioTryCall e = refl
only_try _ e = cc

some_of : (o : Option Func) → is_some o ≡ true → (f : Func) × (o ≡ Some f)
some_of None is = cc
some_of (Some f) is = (f, refl)

-- the type of a parameter
param_at : (ps : List Var) (i : ℕ) (u : Ty) → slice_get (types_in ps) i ≡ Some u → option_map (λ (p : Var). p.1) (slice_get ps i) ≡ Some u
param_at [] i u at = cc
param_at (p ∷ ps) zero u at = at
param_at (p ∷ ps) (suc i) u at = param_at ps i u at

none_given : (ts : List Ty) → (length ts == 0) ≡ true → ts ≡ []
none_given [] is = refl
none_given (t ∷ ts) is = (let no_none : suc (length ts) ≡ 0 = equal (suc (length ts)) 0 is in absurd (omega (arith, no_none)))

append_length : (xs ys : List Ty) → length (xs ++ ys) ≡ length xs + length ys
append_length [] ys = (let e : length ys ≡ 0 + length ys = omega arith in e)
append_length (x ∷ xs) ys = (let again = append_length xs ys in omega (arith, again))

before_suc : (i n : ℕ) → nat_lt (suc i) (suc n) ≡ nat_lt i n
before_suc i n = by (nat_lt i n) refl
  where
    by : (b : Bool) → nat_lt i n ≡ b → nat_lt (suc i) (suc n) ≡ b
    by true e = grind (arith, nat_tests)
    by false e = grind (arith, nat_tests)

-- a token for each dependency, and then values
task_types : (n i : ℕ) (ws : List Ty) (t u : Ty) → slice_get (tokens n ++ ws) i ≡ Some u → (if nat_lt i n then is_token t else is_asked (slice_get ws (i - n)) t) ≡ true → t ≡ u
task_types zero i ws t u at fit =
    let none : nat_lt i 0 ≡ false = grind (arith, nat_tests) in
    let all : i - 0 ≡ i = omega arith in
    asked_is ws i t u at (subst (λ k. is_asked (slice_get ws k) t ≡ true) all (subst (λ b. (if b then is_token t else is_asked (slice_get ws (i - 0)) t) ≡ true) none fit))
task_types (suc n) zero ws t u at fit =
    let front : nat_lt 0 (suc n) ≡ true = grind (arith, nat_tests) in
    let same : ty.Token ≡ u = cc in
    token_is t (subst (λ b. (if b then is_token t else is_asked (slice_get ws (0 - suc n)) t) ≡ true) front fit) ∙ same
task_types (suc n) (suc i) ws t u at fit =
    let less : suc i - suc n ≡ i - n = omega arith in
    task_types n i ws t u at
    (subst (λ k. (if nat_lt i n then is_token t else is_asked (slice_get ws k) t) ≡ true) less
    (subst (λ b. (if b then is_token t else is_asked (slice_get ws (suc i - suc n)) t) ≡ true) (before_suc i n) fit))

module _ (s : Spot) (fine : IsFine s) where
  operands_by : (kind : OpKind) → kind_of s.place.op ≡ kind → form_of kind ≡ form_is.TryCall → length (operands_of s.place.op) ≡ length (written_of s.place.op)
  operands_by kind e g = (counts s fine).operands ∙ ap (λ k. counted (row_of k).operands (operands_given (row_of k).form s.place.op)) (e ∙ only_try kind g)

  tried : form s.place.op ≡ form_is.TryCall → IsCall (λ us. us ≡ truth ∷ []) s.place.op → TriedFits s
  tried g parts =
      let h = parts.7 in
      let c = some_of s.place.callee (has_callee s fine (ap is_call g)) in
      let f : Func = c.0 in
      let long : length (written_of s.place.op) ≡ length f.params = (counts s fine).written ∙ ap (λ k. written_asked k s.place) g ∙ ap (λ o. param_length o (length (written_of s.place.op))) c.1 in
      let size : length (types_in f.params) ≡ length f.params = length_types f.params in
      let taken : written_of s.place.op ≡ types_in f.params = same_list (written_of s.place.op) (types_in f.params) (long ∙ sym size) (λ i t u at there.
      asked_so (param_type s.place.callee i) t u (ap (λ o. param_type o i) c.1 ∙ param_at f.params i u there) (written_so s fine form_is.TryCall g i t at)) in
      let tries : tries_results (form s.place.op) s.place.callee ≡ false = or_right (miscounts s.place) (tries_results (form s.place.op) s.place.callee) (parted s Arity (fine Arity)).own in
      let nothing : not (length f.results == 0) ≡ false = sym (ap (λ k. tries_results k s.place.callee) g ∙ ap has_results c.1) ∙ tries in
      record {
        func = f;
        called = c.1;
        has = operands_are s fine form_is.TryCall g (types_in f.params) (operands_by (kind_of s.place.op) refl g ∙ ap (λ (ws : List Ty). length ws) taken) (λ i t u at fit.
            asked_so (slice_get (written_of s.place.op) i) t u (ap (λ (ws : List Ty). slice_get ws i) taken ∙ at) fit);
        gives_nothing = none_given f.results (not_false (length f.results == 0) nothing);
        truth_is = h.types_are ∙ parts.6;
        are_taken = subst AreTypes (sym h.written_are ∙ taken) (are_types parts.1 parts.4);
      }

  tried_by : (g : Form) (kind : OpKind) → form s.place.op ≡ g → role_by g kind ≡ role.TriedCall → HasParts g s.place.op → TriedFits s
  tried_by form_is.TryCall kind e is parts = tried e parts
  tried_by _ kind e is parts = cc

  launched : form s.place.op ≡ form_is.Execute → IsExecute s.place.op → LaunchFits s
  launched g parts =
      let h = parts.7 in
      let n = parts.0 in
      let ws = parts.1 in
      let ts = parts.2 in
      let w : List Ty = written_of s.place.op in
      let count : dependency_count (groups_of s.place.op) ≡ n = ap dependency_count h.groups_are in
      let first : group s.place.op 0 ≡ n = ap (λ gs. unwrap_or (slice_get gs 0) 0) h.groups_are in
      let long : length w ≡ length ws = ap (λ (us : List Ty). length us) h.written_are in
      let front : length (tokens n) ≡ n = replicate_length n ty.Token in
      let all : length (tokens n ++ w) ≡ length (tokens n) + length w = append_length (tokens n) w in
      let len : length (operands_of s.place.op) ≡ n + length ws = h.operand_count in
      record {
        has = subst (λ k. HasTypes s.seen (operands_of s.place.op) (tokens k ++ w)) (sym count)
            (operands_are s fine form_is.Execute g (tokens n ++ w) (omega (arith, long, front, all, len)) (λ i t u at fit.
            task_types n i w t u at (subst (λ k. (if nat_lt i k then is_token t else is_asked (slice_get w (i - k)) t) ≡ true) first fit)));
        are_values = every_one is_value w (λ i t at. written_so s fine form_is.Execute g i t at);
        are_taken = subst AreTypes (sym h.written_are) (are_types ws parts.5);
        params = h.params_are ∙ ap (λ (us : List Ty). map payload us ∷ []) (sym h.written_are);
        values = ts;
        types = h.types_are;
        gives_values = every_one is_value ts (λ i t at. result_so s fine form_is.Execute g (suc i) t (ap (λ (us : List Ty). slice_get us (suc i)) h.types_are ∙ at));
      }

  launch_by : (g : Form) (kind : OpKind) → form s.place.op ≡ g → role_by g kind ≡ role.Plain Launch → HasParts g s.place.op → LaunchFits s
  launch_by form_is.Execute kind e is parts = launched e parts
  launch_by _ kind e is parts = cc

pub tried_calls_fit : TriedCallsFit
tried_calls_fit s fine parts is = tried_by s fine (form s.place.op) (kind_of s.place.op) refl is parts

pub launches_fit : LaunchesFit
launches_fit s fine parts is = launch_by s fine (form s.place.op) (kind_of s.place.op) refl is parts
