-- What the walk has added at the end of an operation, and of a region.
use Rattle.std.proofs.Common.{◌≡◌, ◌≤◌, ℕ, Bool, List, [], ◌∷◌, ◌++◌, length, drop, sym, ap, ◌∙◌, append_assoc, append-nil, OnOk, Result, Ok, Err}
use Rattle.std.proofs.lemmas.List.{drop_all}
use Rattle.ir_forms.specs.declared.ops.Op.{Op, out-Op}
use Rattle.ir_forms.specs.declared.ops.Region.{Region}
use Rattle.ir_forms.specs.Ops.{kind_of, regions_of, ops_of, results_of}
use Rattle.op_table.specs.Rows.{name_of}
use Rattle.ir_forms.specs.declared.ops.ValueNo.{ValueNo}
use Rattle.ir_forms.specs.declared.types.Ty.{Ty}
use Rattle.mlir_print.specs.Docs.{Line, ◌<>◌, bytes_of, deeper, word}
use Rattle.mlir_print.specs.Forms.{form, params_of}
use Rattle.mlir_print.specs.Printed.{Printed, nothing, block_line, results_doc, op_number, printed_op, printed_region, printed_regions, printed_lines, next}
use Rattle.mlir_print.proofs.Foldings.{printed_op-out, printed_region-out}

pub on_ok : {T E : Type 0} (r : Result T E) {P Q : Type 0} → (P → Q) → OnOk r P → OnOk r Q
on_ok (Ok x) f p = f p
on_ok (Err e) f p = tt

regions_over : (regions : List Region) (o : Op) (n : ℕ) (indent : List ℕ) (last : ℕ) → length regions ≤ n → printed_regions (drop n regions) o n indent last ≡ nothing last
regions_over regions o n indent last over = ap (λ (rest : List Region). printed_regions rest o n indent last) (drop_all n regions over)

lines_over : (ops : List Op) (n : ℕ) (indent : List ℕ) (last : ℕ) → length ops ≤ n → printed_lines (drop n ops) indent last ≡ nothing last
lines_over ops n indent last over = ap (λ (rest : List Op). printed_lines rest indent last) (drop_all n ops over)

-- the text is the whole where nothing is left
whole : (walked all : List ℕ) (p : Printed) (last : ℕ) → p ≡ nothing last → walked ++ bytes_of p.doc ≡ all → walked ≡ all
whole walked all p last none so_far = sym (append-nil walked) ∙ ap (λ (x : Printed). walked ++ bytes_of x.doc) (sym none) ∙ so_far

regroup : (old a b c r n : List ℕ) → ((old ++ (a ++ (b ++ c))) ++ r) ++ n ≡ old ++ (a ++ (b ++ (c ++ (r ++ n))))
regroup old a b c r n = simp append_assoc

module _ (o : Op) (indent : List ℕ) (last place n after : ℕ) (regions : List Region) (is_next : place ≡ next last) (are : regions ≡ regions_of o) (over : length regions ≤ n) where
  regions_are : printed_regions regions o 0 indent place ≡ printed_regions (regions_of o) o 0 indent (next last)
  regions_are = ap (λ (rs : List Region). printed_regions rs o 0 indent place) are ∙ ap (λ (k : ℕ). printed_regions (regions_of o) o 0 indent k) is_next

  pub op_text : (old counted headed walked result : List ℕ) → counted ≡ old
      → headed ≡ counted ++ bytes_of (results_doc (results_of o) <> word (name_of (kind_of o)) <> form (kind_of o) o)
      → walked ++ bytes_of (printed_regions (drop n regions) o n indent after).doc ≡ headed ++ bytes_of (printed_regions regions o 0 indent place).doc
      → result ≡ walked ++ bytes_of (op_number (out-Op o).at place)
      → result ≡ old ++ bytes_of (printed_op o indent last).doc
  op_text old counted headed walked result same begun so_far numbered =
      let front : List ℕ = bytes_of (results_doc (results_of o) <> word (name_of (kind_of o)) <> form (kind_of o) o) in
      let behind : List ℕ = bytes_of (op_number (out-Op o).at (next last)) in
      let walked_is : walked ≡ (old ++ front) ++ bytes_of (printed_regions (regions_of o) o 0 indent (next last)).doc =
      whole walked _ _ after (regions_over regions o n indent after over) so_far
      ∙ ap (λ (h : List ℕ). h ++ bytes_of (printed_regions regions o 0 indent place).doc) (begun ∙ ap (λ (x : List ℕ). x ++ front) same)
      ∙ ap (λ (p : Printed). (old ++ front) ++ bytes_of p.doc) regions_are in
      numbered
      ∙ ap (λ (k : ℕ). walked ++ bytes_of (op_number (out-Op o).at k)) is_next
      ∙ ap (λ (w : List ℕ). w ++ behind) walked_is
      ∙ regroup old (bytes_of (results_doc (results_of o))) (name_of (kind_of o)) (bytes_of (form (kind_of o) o)) (bytes_of (printed_regions (regions_of o) o 0 indent (next last)).doc) behind
      ∙ ap (λ (p : Printed). old ++ bytes_of p.doc) (sym (printed_op-out o indent last))

  pub op_last : (printed_regions (drop n regions) o n indent after).last ≡ (printed_regions regions o 0 indent place).last → after ≡ (printed_op o indent last).last
  op_last so_far =
      ap (λ (p : Printed). p.last) (sym (regions_over regions o n indent after over)) ∙ so_far
      ∙ ap (λ (p : Printed). p.last) regions_are ∙ ap (λ (p : Printed). p.last) (sym (printed_op-out o indent last))

regroup_lines : (old block lines tail : List ℕ) → ((((old ++ 123 ∷ []) ++ block) ++ lines) ++ tail) ++ 125 ∷ [] ≡ old ++ (123 ∷ (block ++ (lines ++ (tail ++ 125 ∷ []))))
regroup_lines old block lines tail = simp append_assoc

module _ (region : Region) (shows : Bool) (indent : List ℕ) (last n after : ℕ) (ops : List Op) (are : ops ≡ ops_of region) (over : length ops ≤ n) where
  lines_are : printed_lines ops (deeper indent) last ≡ printed_lines (ops_of region) (deeper indent) last
  lines_are = ap (λ (os : List Op). printed_lines os (deeper indent) last) are

  pub region_text : (old opened headed walked lined result inner : List ℕ) (params : List (ValueNo × Ty)) → inner ≡ deeper indent → params ≡ params_of region
      → opened ≡ old ++ 123 ∷ []
      → headed ≡ opened ++ bytes_of (block_line shows inner params)
      → walked ++ bytes_of (printed_lines (drop n ops) (deeper indent) after).doc ≡ headed ++ bytes_of (printed_lines ops (deeper indent) last).doc
      → lined ≡ walked ++ bytes_of (Line indent)
      → result ≡ lined ++ 125 ∷ []
      → result ≡ old ++ bytes_of (printed_region region shows indent last).doc
  region_text old opened headed walked lined result inner params inner_is params_are opens heads so_far ends closes =
      let block : List ℕ = bytes_of (block_line shows (deeper indent) (params_of region)) in
      let headed_is : headed ≡ (old ++ 123 ∷ []) ++ block =
      heads ∙ ap (λ (x : List ℕ). x ++ bytes_of (block_line shows inner params)) opens
      ∙ ap (λ (i : List ℕ). (old ++ 123 ∷ []) ++ bytes_of (block_line shows i params)) inner_is
      ∙ ap (λ (ps : List (ValueNo × Ty)). (old ++ 123 ∷ []) ++ bytes_of (block_line shows (deeper indent) ps)) params_are in
      let walked_is : walked ≡ ((old ++ 123 ∷ []) ++ block) ++ bytes_of (printed_lines (ops_of region) (deeper indent) last).doc =
      whole walked _ _ after (lines_over ops n (deeper indent) after over) so_far
      ∙ ap (λ (h : List ℕ). h ++ bytes_of (printed_lines ops (deeper indent) last).doc) headed_is
      ∙ ap (λ (p : Printed). ((old ++ 123 ∷ []) ++ block) ++ bytes_of p.doc) lines_are in
      closes ∙ ap (λ (x : List ℕ). x ++ 125 ∷ []) (ends ∙ ap (λ (w : List ℕ). w ++ bytes_of (Line indent)) walked_is)
      ∙ regroup_lines old block (bytes_of (printed_lines (ops_of region) (deeper indent) last).doc) (bytes_of (Line indent))
      ∙ ap (λ (p : Printed). old ++ bytes_of p.doc) (sym (printed_region-out region shows indent last))

  pub region_last : (printed_lines (drop n ops) (deeper indent) after).last ≡ (printed_lines ops (deeper indent) last).last → after ≡ (printed_region region shows indent last).last
  region_last so_far =
      ap (λ (p : Printed). p.last) (sym (lines_over ops n (deeper indent) after over)) ∙ so_far
      ∙ ap (λ (p : Printed). p.last) lines_are ∙ ap (λ (p : Printed). p.last) (sym (printed_region-out region shows indent last))
