-- The equations of what operations and regions print as.
use Rattle.std.proofs.Common.{◌≡◌, if◌then◌else◌, ℕ, ◌+◌, Bool, true, false, List, [], ◌∷◌, map, ap, refl, ◌∙◌}
use Rattle.ir_forms.specs.declared.ops.Op.{Op}
use Rattle.ir_forms.specs.declared.ops.Op.TheFolds.{fold-Op, fold-Region, fold_out-Op, fold_out-Region}
use Rattle.ir_forms.specs.declared.ops.Region.{Region}
use Rattle.ir_forms.specs.Ops.{kind_of, regions_of, ops_of}
use Rattle.mlir_print.specs.Docs.{deeper}
use Rattle.mlir_print.specs.Forms.{types_of}
use Rattle.mlir_print.specs.Printed.{Printed, OfOp, OfRegion, op_step, region_step, of_regions, lines_of, line_first, region_first, is_left_out, shows_params, braced, printed_op, printed_region, printed_regions, printed_lines, with_regions, next}

held : (regions : List Region) (o : Op) (i : ℕ) (indent : List ℕ) (last : ℕ) →
    of_regions (map (fold-Region OfOp OfRegion op_step region_step) regions) regions o i indent last ≡ printed_regions regions o i indent last
unfolding printed_region
held [] o i indent last = refl
held (region ∷ regions) o i indent last = chosen (is_left_out (kind_of o) i (types_of o) (ops_of region)) (printed_region region (shows_params (kind_of o) i) indent last)
    (held regions o (i + 1) indent last) (held regions o (i + 1) indent (printed_region region (shows_params (kind_of o) i) indent last).last)
  where
    chosen : (test : Bool) (first : Printed) {a b c d : Printed} → a ≡ b → c ≡ d → (if test then a else region_first o i first c) ≡ (if test then b else region_first o i first d)
    chosen true first p q = p
    chosen false first p q = ap (region_first o i first) q

along : (ops : List Op) (indent : List ℕ) (last : ℕ) →
    lines_of (map (fold-Op OfOp OfRegion op_step region_step) ops) ops indent last ≡ printed_lines ops indent last
unfolding printed_op
along [] indent last = refl
along (o ∷ os) indent last = ap (line_first indent (printed_op o indent last)) (along os indent (printed_op o indent last).last)

pub printed_op-out : (o : Op) (indent : List ℕ) (last : ℕ) →
    printed_op o indent last ≡ with_regions o (next last) (printed_regions (regions_of o) o 0 indent (next last))
unfolding printed_op
printed_op-out o indent last =
    ap (λ (f : OfOp). f o indent last) (fold_out-Op OfOp OfRegion op_step region_step o)
    ∙ ap (with_regions o (next last)) (held (regions_of o) o 0 indent (next last))

pub printed_region-out : (region : Region) (shows : Bool) (indent : List ℕ) (last : ℕ) →
    printed_region region shows indent last ≡ braced region shows indent (printed_lines (ops_of region) (deeper indent) last)
unfolding printed_region
printed_region-out region shows indent last =
    ap (λ (f : OfRegion). f region shows indent last) (fold_out-Region OfOp OfRegion op_step region_step region)
    ∙ ap (braced region shows indent) (along (ops_of region) (deeper indent) last)
