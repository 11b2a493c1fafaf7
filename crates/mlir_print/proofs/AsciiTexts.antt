-- The bytes of a printed text are ASCII.
use Rattle.std.proofs.Common.{◌≡◌, ℕ, zero, suc, ◌+◌, Bool, true, false, ◌==◌, if◌then◌else◌, List, [], ◌∷◌, map, IsUtf8, refl, sym, ap, subst, ◌∙◌}
use Rattle.std.proofs.lemmas.Str.{IsUtf8-from_ascii}
use Rattle.op_table.specs.declared.kind.OpKind.{OpKind}
use Rattle.op_table.specs.Rows.{name_of}
use Rattle.op_table.specs.Laws.{ListsEachKind}
use Rattle.ir_forms.specs.declared.ops.Op.{Op, out-Op, roll-Op, out-roll-Op}
use Rattle.ir_forms.specs.declared.ops.Region.{Region, roll-Region, out-roll-Region}
use Rattle.ir_forms.specs.declared.ops.Op.TheFolds.{ind-Region}
use Rattle.ir_forms.specs.declared.ops.Func.{Func}
use Rattle.ir_forms.specs.declared.ops.Module.{Module}
use Rattle.ir_forms.specs.declared.ops.ValueNo.{ValueNo}
use Rattle.ir_forms.specs.declared.types.Ty.{Ty}
use Rattle.ir_forms.specs.Ops.{kind_of, results_of, regions_of, ops_of}
use Rattle.mlir_print.specs.Docs as doc
use Rattle.mlir_print.specs.Docs.{Doc, ◌<>◌, bytes_of, deeper, word, keyword}
use Rattle.mlir_print.specs.Forms.{param, params_of, types_of}
use Rattle.mlir_print.specs.Printed.{Printed, next, number_dict, op_number, func_number, results_doc, block_line, opening, shows_params, is_left_out, region_first, with_regions, braced, printed_op, printed_region, printed_regions, printed_lines, func_head, printed_func, printed_funcs, printed}
use Rattle.mlir_print.proofs.Foldings.{printed_op-out, printed_region-out}
use Rattle.mlir_print.proofs.AsciiWords.{all_ascii, each-ascii, ascii-append, Ascii, seq, ascii-number, ascii-symbol}
use Rattle.mlir_print.proofs.AsciiForms.{ascii-empty, ascii-blank, ascii-colon, ascii-equals, ascii-parens, ascii-commas, ascii-values, ascii-results, ascii-param, ascii-form}

-- ---- what stands round the forms

ascii-dict : (at : ℕ) → Ascii (number_dict at)
ascii-dict at =
    seq (record { ascii = refl }) (seq (record { ascii = refl }) (seq ascii-equals (seq (ascii-number at)
    (seq ascii-colon (seq (record { ascii = refl }) (record { ascii = refl }))))))

ascii-unless : (same : Bool) {d : Doc} → Ascii d → Ascii (if same then doc.Empty else d)
ascii-unless true is = ascii-empty
ascii-unless false is = is

ascii-op_number : (at place : ℕ) → Ascii (op_number at place)
ascii-op_number at place = ascii-unless (at == place) (seq ascii-blank (ascii-dict at))

ascii-func_number : (at place : ℕ) → Ascii (func_number at place)
ascii-func_number at place = ascii-unless (at == place) (seq (record { ascii = refl }) (ascii-dict at))

ascii-results_doc : (vs : List ValueNo) → Ascii (results_doc vs)
ascii-results_doc [] = ascii-empty
ascii-results_doc (v ∷ vs) = seq (ascii-values (v ∷ vs)) ascii-equals

-- an indentation is ASCII
abbrev pub IsIndent : List ℕ → Type 0
IsIndent indent = all_ascii indent ≡ true

pub ascii-line : (indent : List ℕ) → IsIndent indent → Ascii (doc.Line indent)
ascii-line indent is = record { ascii = is }

ascii-deeper : (indent : List ℕ) → IsIndent indent → IsIndent (deeper indent)
ascii-deeper indent is = ascii-append indent (32 ∷ 32 ∷ []) is refl

ascii-block : (shows : Bool) (indent : List ℕ) (params : List (ValueNo × Ty)) → IsIndent indent → Ascii (block_line shows indent params)
ascii-block true indent [] is = ascii-empty
ascii-block true indent (p ∷ ps) is =
    seq (ascii-line indent is) (seq (record { ascii = refl }) (seq (ascii-parens (ascii-commas param ascii-param (p ∷ ps))) (seq ascii-blank (record { ascii = refl }))))
ascii-block false indent params is = ascii-empty

ascii-braced : (region : Region) (shows : Bool) (indent : List ℕ) (lines : Printed) → IsIndent indent → Ascii lines.doc → Ascii (braced region shows indent lines).doc
ascii-braced region shows indent lines is within =
    seq (record { ascii = refl }) (seq (ascii-block shows (deeper indent) (params_of region) (ascii-deeper indent is))
    (seq within (seq (ascii-line indent is) (record { ascii = refl }))))

-- ---- operations and regions

abbrev OfOp : Op → Type 0
OfOp o = (indent : List ℕ) (last : ℕ) → IsIndent indent → Ascii (printed_op o indent last).doc

abbrev OfRegion : Region → Type 0
OfRegion region = (shows : Bool) (indent : List ℕ) (last : ℕ) → IsIndent indent → Ascii (printed_region region shows indent last).doc

along : (os : List ((op : Op) × OfOp op)) (indent : List ℕ) (last : ℕ) → IsIndent indent → Ascii (printed_lines (map (λ e. e.0) os) indent last).doc
along [] indent last is = ascii-empty
along (e ∷ os) indent last is =
    seq (ascii-line indent is) (seq (e.1 indent last is) (along os indent (printed_op e.0 indent last).last is))

module _ (each : ListsEachKind) where
  pub ascii-name : (k : OpKind) → Ascii (word (name_of k))
  ascii-name k = record { ascii = each (λ j. all_ascii (name_of j)) refl k }

  ascii-opening : (k : OpKind) (i : ℕ) → Ascii (opening k i)
  ascii-opening k zero = record { ascii = each (λ j. all_ascii (bytes_of (opening j zero))) refl k }
  ascii-opening k (suc i) = record { ascii = each (λ j. all_ascii (bytes_of (opening j (suc i)))) refl k }

  held : (rs : List ((region : Region) × OfRegion region)) (o : Op) (i : ℕ) (indent : List ℕ) (last : ℕ) → IsIndent indent
      → Ascii (printed_regions (map (λ e. e.0) rs) o i indent last).doc
  held [] o i indent last is = ascii-empty
  held (e ∷ rs) o i indent last is =
      let first : Printed = printed_region e.0 (shows_params (kind_of o) i) indent last in
      chosen (is_left_out (kind_of o) i (types_of o) (ops_of e.0))
      (printed_regions (map (λ e. e.0) rs) o (i + 1) indent last) (region_first o i first (printed_regions (map (λ e. e.0) rs) o (i + 1) indent first.last))
      (held rs o (i + 1) indent last is)
      (seq (ascii-opening (kind_of o) i) (seq (e.1 (shows_params (kind_of o) i) indent last is) (held rs o (i + 1) indent first.last is)))
    where
      chosen : (out : Bool) (p q : Printed) → Ascii p.doc → Ascii q.doc → Ascii (if out then p else q).doc
      chosen true p q one other = one
      chosen false p q one other = other

  of_op : (o : Op) (rs : List ((region : Region) × OfRegion region)) → regions_of o ≡ map (λ e. e.0) rs → OfOp o
  of_op o rs are indent last is =
      subst (λ (p : Printed). Ascii p.doc) (sym (printed_op-out o indent last))
      (subst (λ (regions : List Region). Ascii (with_regions o (next last) (printed_regions regions o 0 indent (next last))).doc) (sym are)
      (seq (ascii-results_doc (results_of o)) (seq (ascii-name (kind_of o))
      (seq (ascii-form (kind_of o) o) (seq (held rs o 0 indent (next last) is) (ascii-op_number (out-Op o).at (next last)))))))

  of_region : (region : Region) (os : List ((op : Op) × OfOp op)) → ops_of region ≡ map (λ e. e.0) os → OfRegion region
  of_region region os are shows indent last is =
      subst (λ (p : Printed). Ascii p.doc) (sym (printed_region-out region shows indent last))
      (subst (λ (ops : List Op). Ascii (braced region shows indent (printed_lines ops (deeper indent) last)).doc) (sym are)
      (ascii-braced region shows indent (printed_lines (map (λ e. e.0) os) (deeper indent) last) is (along os (deeper indent) last (ascii-deeper indent is))))

  ascii-region : (region : Region) → OfRegion region
  ascii-region = ind-Region OfOp OfRegion
      (λ x y is. of_op (roll-Op x) y.regions (ap (λ layer. layer.regions) (out-roll-Op x) ∙ sym (ap (λ layer. layer.regions) is)))
      (λ x y is. of_region (roll-Region x) y.ops (ap (λ layer. layer.ops) (out-roll-Region x) ∙ sym (ap (λ layer. layer.ops) is)))

  -- ---- functions and modules

  ascii-head : (f : Func) (place : ℕ) → Ascii (func_head f place)
  ascii-head f place =
      seq (record { ascii = refl }) (seq ascii-blank (seq (ascii-symbol f.name) (seq (ascii-parens (ascii-commas param ascii-param f.params))
      (seq (ascii-results f.results) (seq (ascii-func_number f.at place) ascii-blank)))))

  ascii-funcs : (fs : List Func) (last : ℕ) → Ascii (printed_funcs fs last)
  ascii-funcs [] last = ascii-empty
  ascii-funcs (f ∷ fs) last =
      seq (seq (ascii-head f (next last)) (ascii-region f.body false [] (next last) refl))
      (seq (ascii-line [] refl) (ascii-funcs fs (printed_func f last).last))

  pub printed-utf8 : (m : Module) → IsUtf8 (printed m)
  printed-utf8 m = IsUtf8-from_ascii (printed m) (each-ascii (printed m) (ascii-funcs m.funcs 0).ascii)
