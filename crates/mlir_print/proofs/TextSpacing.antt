-- The tokens of a whole printed text stand apart.
use Rattle.std.proofs.Common.{◌≡◌, ℕ, zero, suc, ◌+◌, Bool, true, false, ◌==◌, if◌then◌else◌, List, [], ◌∷◌, ◌++◌, map, refl, sym, ap, subst, ◌∙◌, codes}
use Rattle.mlir_lex.specs.declared.bytes.ByteClass.TheVariants.{Blank}
use Rattle.mlir_lex.specs.Bytes.{is_in}
use Rattle.mlir_lex.specs.Grammar.{is_name, all_in}
use Rattle.op_table.specs.declared.kind.OpKind.{OpKind}
use Rattle.op_table.specs.declared.kind.OpKind.TheVariants as op
use Rattle.op_table.specs.Rows.{name_of}
use Rattle.op_table.specs.Laws.{ListsEachKind}
use Rattle.ir_forms.specs.declared.ops.Op.{Op, out-Op, roll-Op, out-roll-Op}
use Rattle.ir_forms.specs.declared.ops.Region.{Region, roll-Region, out-roll-Region}
use Rattle.ir_forms.specs.declared.ops.Op.TheFolds.{ind-Region}
use Rattle.ir_forms.specs.declared.ops.Func.{Func}
use Rattle.ir_forms.specs.declared.ops.Module.{Module}
use Rattle.ir_forms.specs.declared.ops.ValueNo.{ValueNo}
use Rattle.ir_forms.specs.declared.types.Ty.{Ty}
use Rattle.ir_forms.specs.Ops.{kind_of, results_of, regions_of, ops_of}
use Rattle.mlir_print.specs.Docs as doc
use Rattle.mlir_print.specs.Docs.{Doc, ◌<>◌, bytes_of, deeper, word, keyword, parens, commas}
use Rattle.mlir_print.specs.Forms.{param, params_of, types_of}
use Rattle.mlir_print.specs.Printed.{Printed, next, number_dict, op_number, func_number, results_doc, block_line, opening, shows_params, is_left_out, region_first, with_regions, braced, printed_op, printed_region, printed_regions, printed_lines, func_head, printed_func, printed_funcs, module_doc}
use Rattle.mlir_print.proofs.Spacing.{Stands, both}
use Rattle.mlir_print.proofs.Separators.{Fits, Free, Good, good_empty, behind, seq, seq_closed, free_behind, closed_blank, free_first, fits_word, keyword_first, free_open, blank_closed, good_close, equals_first, colon_first, free_equals, free_parens, good_parens, fits_commas, blank, line_end, blank_first}
use Rattle.mlir_print.proofs.Words.{fits_number, fits_symbol}
use Rattle.mlir_print.proofs.FormSpacing.{fits_values, fits_param, good_form, good_results}
use Rattle.mlir_print.proofs.Foldings.{printed_op-out, printed_region-out}

-- ---- what stands round the forms

fits_number_dict : (at : ℕ) → Fits (number_dict at)
unfolding is_in
fits_number_dict at =
    free_first free_open (behind (fits_word (codes "aio.at") refl) (equals_first (behind (fits_number at)
    (colon_first (behind (fits_word (codes "i64") refl) good_close)))))

good_number : (at place : ℕ) → Good (op_number at place)
good_number at place = by_case (at == place)
  where
    by_case : (same : Bool) → Good (if same then doc.Empty else (doc.Blank <> number_dict at))
    by_case true = good_empty
    by_case false = blank_first (fits_number_dict at)

good_func_number : (at place : ℕ) → Good (func_number at place)
unfolding is_in
good_func_number at place = by_case (at == place)
  where
    by_case : (same : Bool) → Good (if same then doc.Empty else (keyword (codes "attributes") <> number_dict at))
    by_case true = good_empty
    by_case false = keyword_first (codes "attributes") refl (fits_number_dict at)

free_results : (vs : List ValueNo) → Free (results_doc vs)
free_results [] = record { stand = λ rest. tt }
free_results (v ∷ vs) = record { stand = λ rest. ((fits_values (v ∷ vs)).stand (32 ∷ 61 ∷ 32 ∷ rest) blank, free_equals.stand rest) }

abbrev pub IsIndent : List ℕ → Type 0
IsIndent indent = all_in Blank indent ≡ true

deeper_is : (indent : List ℕ) → IsIndent indent → IsIndent (deeper indent)
unfolding is_in
deeper_is [] is = refl
deeper_is (b ∷ bs) is = let p = both (is_in Blank b) (all_in Blank bs) is in rw (p.0, deeper_is bs p.1) refl

-- a line, and what stands on it
pub good_line : (indent : List ℕ) {d : Doc} → IsIndent indent → Fits d → Good (doc.Line indent <> d)
good_line indent is fd = record { stand = λ rest ends. (is, fd.stand rest ends); opens = λ rest ends. line_end }

free_block : (shows : Bool) (indent : List ℕ) (params : List (ValueNo × Ty)) → IsIndent indent → Free (block_line shows indent params)
unfolding is_in
free_block true indent [] is = record { stand = λ rest. tt }
free_block true indent (p ∷ ps) is = record { stand = λ rest. (is, ((refl, refl), ((free_parens (fits_commas param fits_param (p ∷ ps))).stand (32 ∷ 58 ∷ rest), (tt, (refl, refl))))) }
free_block false indent ps is = record { stand = λ rest. tt }

good_opening : (k : OpKind) (i : ℕ) {d : Doc} → Fits d → Good (opening k i <> d)
unfolding is_in
good_opening op.ScfIf (suc i) fd = keyword_first (codes "else") refl fd
good_opening op.ScfWhile (suc i) fd = keyword_first (codes "do") refl fd
good_opening op.ScfIf zero fd = blank_first fd
good_opening op.ScfWhile zero fd = blank_first fd
good_opening _ i fd = blank_first fd

-- ---- operations and regions

braced_free : (region : Region) (shows : Bool) (indent : List ℕ) (lines : Printed) → IsIndent indent → Good lines.doc → Free (braced region shows indent lines).doc
unfolding is_in
braced_free region shows indent lines is good = record {
  stand = λ rest. ((refl, refl), ((free_block shows (deeper indent) (params_of region) (deeper_is indent is)).stand _, (good.stand _ line_end, (is, (refl, refl)))));
}

abbrev OfOp : Op → Type 0
OfOp o = (indent : List ℕ) (last : ℕ) → IsIndent indent → Fits (printed_op o indent last).doc

abbrev OfRegion : Region → Type 0
OfRegion region = (shows : Bool) (indent : List ℕ) (last : ℕ) → IsIndent indent → Free (printed_region region shows indent last).doc

-- what is free may be followed by anything
then_good : {a b : Doc} → Free a → Good b → Fits (a <> b)
then_good {a} {b} free gb = record { stand = λ rest ends. (free.stand (bytes_of b ++ rest), gb.stand rest ends) }

held : (rs : List ((region : Region) × OfRegion region)) (o : Op) (i : ℕ) (indent : List ℕ) (last : ℕ) → IsIndent indent
    → Good (printed_regions (map (λ e. e.0) rs) o i indent last).doc
held [] o i indent last is = good_empty
held (e ∷ rs) o i indent last is =
    let first : Printed = printed_region e.0 (shows_params (kind_of o) i) indent last in
    chosen (is_left_out (kind_of o) i (types_of o) (ops_of e.0))
    (printed_regions (map (λ e. e.0) rs) o (i + 1) indent last) (region_first o i first (printed_regions (map (λ e. e.0) rs) o (i + 1) indent first.last))
    (held rs o (i + 1) indent last is)
    (good_opening (kind_of o) i (then_good (e.1 (shows_params (kind_of o) i) indent last is) (held rs o (i + 1) indent first.last is)))
  where
    chosen : (out : Bool) (p q : Printed) → Good p.doc → Good q.doc → Good (if out then p else q).doc
    chosen true p q good other = good
    chosen false p q good other = other

along : (os : List ((op : Op) × OfOp op)) (indent : List ℕ) (last : ℕ) → IsIndent indent → Good (printed_lines (map (λ e. e.0) os) indent last).doc
along [] indent last is = good_empty
along (e ∷ os) indent last is =
    good_line indent is (behind (e.1 indent last is) (along os indent (printed_op e.0 indent last).last is))

module _ (each : ListsEachKind) where
  pub name_is : (k : OpKind) → is_name (name_of k) ≡ true
  unfolding is_in
  name_is k = each (λ j. is_name (name_of j)) refl k

  of_op : (o : Op) (rs : List ((region : Region) × OfRegion region)) → regions_of o ≡ map (λ e. e.0) rs → OfOp o
  of_op o rs are indent last is =
      subst (λ (p : Printed). Fits p.doc) (sym (printed_op-out o indent last))
      (subst (λ (regions : List Region). Fits (with_regions o (next last) (printed_regions regions o 0 indent (next last))).doc) (sym are)
      (free_first (free_results (results_of o)) (behind (fits_word (name_of (kind_of o)) (name_is (kind_of o)))
      (seq (good_form (kind_of o) o) (seq (held rs o 0 indent (next last) is) (good_number (out-Op o).at (next last)))))))

  of_region : (region : Region) (os : List ((op : Op) × OfOp op)) → ops_of region ≡ map (λ e. e.0) os → OfRegion region
  of_region region os are shows indent last is =
      subst (λ (p : Printed). Free p.doc) (sym (printed_region-out region shows indent last))
      (subst (λ (ops : List Op). Free (braced region shows indent (printed_lines ops (deeper indent) last)).doc) (sym are)
      (braced_free region shows indent (printed_lines (map (λ e. e.0) os) (deeper indent) last) is (along os (deeper indent) last (deeper_is indent is))))

  region_is : (region : Region) → OfRegion region
  region_is = ind-Region OfOp OfRegion
      (λ x y is. of_op (roll-Op x) y.regions (ap (λ layer. layer.regions) (out-roll-Op x) ∙ sym (ap (λ layer. layer.regions) is)))
      (λ x y is. of_region (roll-Region x) y.ops (ap (λ layer. layer.ops) (out-roll-Region x) ∙ sym (ap (λ layer. layer.ops) is)))

  head_free : (f : Func) (place : ℕ) → Free (func_head f place)
  unfolding is_in
  head_free f place =
      free_behind (fits_word (codes "func.func") refl) (blank_closed
      (free_behind (fits_symbol f.name) (seq_closed (good_parens (fits_commas param fits_param f.params))
      (seq_closed (good_results f.results) (seq_closed (good_func_number f.at place) closed_blank)))))

  funcs_are : (fs : List Func) (last : ℕ) → Free (printed_funcs fs last)
  funcs_are [] last = record { stand = λ rest. tt }
  funcs_are (f ∷ fs) last = record {
    stand = λ rest. (((head_free f (next last)).stand _, (region_is f.body false [] (next last) refl).stand _), (refl, (funcs_are fs (printed_func f last).last).stand rest));
  }

  pub module_is : (m : Module) → Stands (module_doc m) []
  module_is m = (funcs_are m.funcs 0).stand []
