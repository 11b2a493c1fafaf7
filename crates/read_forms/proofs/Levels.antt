-- How deep regions stand that are built, and how the depth grows.
use Rattle.std.proofs.Common.{◌≡◌, ◌≤◌, ℕ, ◌+◌, max, Bool, true, false, cond, ◌&&◌, ◌==◌, List, [], ◌∷◌, ◌++◌, length, map, Option, Some, None, refl, sym, ap, ◌∙◌, arith}
use Rattle.std.proofs.lemmas.List.{map-append}
use Rattle.op_table.specs.declared.kind.OpKind.{OpKind}
use Rattle.op_table.specs.declared.kind.OpKind.TheVariants as op
use Rattle.ir_forms.specs.declared.ops.Op.{Op, Op-F, out-Op, roll-Op}
use Rattle.ir_forms.specs.declared.ops.Op.TheFolds.{fold-roll-Op, fold-roll-Region, fold_out-Op, fold_out-Region}
use Rattle.ir_forms.specs.declared.ops.Region.{Region, Region-F, roll-Region}
use Rattle.ir_forms.specs.declared.ops.Func.{Func}
use Rattle.ir_forms.specs.Ops.{kind_of, operands_of, regions_of, ops_of}
use Rattle.mlir_print.specs.Depth.{deepest_of, op_depth, region_depth, depth_of_op, depth_of_region, depth_of_funcs}
use Rattle.module_grammar.specs.declared.state.OpenOp.{OpenOp}
use Rattle.module_grammar.specs.declared.state.OpenBody.{OpenBody}
use Rattle.module_grammar.specs.State.{up, as_number, is_yield, made, as_reduce, last_as_reduce, body_ops, with_made, with_else, op_of, region_of}

-- the depth of these operations' regions
abbrev pub ops_depth : List Op → ℕ
ops_depth ops = deepest_of (map depth_of_op ops)

abbrev pub regions_depth : List Region → ℕ
regions_depth regions = deepest_of (map depth_of_region regions)

-- what is so deep and stands at this level is within what was seen, or has no regions
abbrev pub Fits : ℕ → ℕ → ℕ → Type 0
Fits seen level depth = depth + level ≤ max seen level

-- ---- one more

deepest-append : (xs ys : List ℕ) → deepest_of (xs ++ ys) ≡ max (deepest_of xs) (deepest_of ys)
deepest-append [] ys = omega arith
deepest-append (x ∷ xs) ys = let h = deepest-append xs ys in omega (arith, h)

pub ops-append : (xs ys : List Op) → ops_depth (xs ++ ys) ≡ max (ops_depth xs) (ops_depth ys)
ops-append xs ys = ap deepest_of (map-append depth_of_op xs ys) ∙ deepest-append (map depth_of_op xs) (map depth_of_op ys)

pub regions-append : (xs ys : List Region) → regions_depth (xs ++ ys) ≡ max (regions_depth xs) (regions_depth ys)
regions-append xs ys = ap deepest_of (map-append depth_of_region xs ys) ∙ deepest-append (map depth_of_region xs) (map depth_of_region ys)

pub funcs-append : (fs : List Func) (f : Func) → depth_of_funcs (fs ++ f ∷ []) ≡ max (depth_of_funcs fs) (depth_of_region f.body)
funcs-append [] f = omega arith
funcs-append (x ∷ fs) f = let h = funcs-append fs f in omega (arith, h)

-- ---- what is built

pub depth-of-op : (x : Op-F Op Region) → depth_of_op (roll-Op x) ≡ regions_depth x.regions
depth-of-op x = fold-roll-Op ℕ ℕ op_depth region_depth x

pub depth-of-region : (x : Region-F Op Region) → depth_of_region (roll-Region x) ≡ 1 + ops_depth x.ops
depth-of-region x = fold-roll-Region ℕ ℕ op_depth region_depth x

depth-of-op-out : (o : Op) → depth_of_op o ≡ regions_depth (regions_of o)
depth-of-op-out o = fold_out-Op ℕ ℕ op_depth region_depth o

depth-of-region-out : (r : Region) → depth_of_region r ≡ 1 + ops_depth (ops_of r)
depth-of-region-out r = fold_out-Region ℕ ℕ op_depth region_depth r

as-reduce-depth : (o : Op) → depth_of_op (as_reduce o) ≡ depth_of_op o
as-reduce-depth o = by (is_yield (kind_of o) && length (operands_of o) == 0)
  where
    by : (b : Bool) → depth_of_op (cond b (roll-Op (record (out-Op o) { kind = op.ScfReduce })) o) ≡ depth_of_op o
    by true = depth-of-op (record (out-Op o) { kind = op.ScfReduce }) ∙ sym (depth-of-op-out o)
    by false = refl

last-reduce-depth : (ops : List Op) → ops_depth (last_as_reduce ops) ≡ ops_depth ops
last-reduce-depth [] = refl
last-reduce-depth (o ∷ []) = ap (λ (n : ℕ). max n 0) (as-reduce-depth o)
last-reduce-depth (o ∷ p ∷ ops) = ap (λ (n : ℕ). max (depth_of_op o) n) (last-reduce-depth (p ∷ ops))

pub body-ops-depth : (k : OpKind) (ops : List Op) → ops_depth (body_ops k ops) ≡ ops_depth ops
body-ops-depth op.ScfParallel ops = last-reduce-depth ops
body-ops-depth _ ops = refl

made-depth : (k : OpKind) (at : ℕ) → depth_of_op (made k at) ≡ 0
made-depth k at = depth-of-op _

pub with-made-depth : (ops : List Op) (k : Option OpKind) (begun : ℕ) → ops_depth (with_made ops k begun) ≡ ops_depth ops
with-made-depth ops None begun = refl
with-made-depth ops (Some k) begun =
    let more = ops-append ops (made k (as_number (up begun 1)) ∷ []) in
    let one = made-depth k (as_number (up begun 1)) in
    omega (arith, more, one)

pub with-else-fits : (seen level : ℕ) (k : OpKind) (regions : List Region) → Fits seen level (regions_depth regions)
    → Fits seen level (regions_depth (with_else k regions))
with-else-fits seen level op.ScfIf (r ∷ []) h =
    let first = depth-of-region-out r in
    let second : depth_of_region (roll-Region (record { params = []; ops = [] })) ≡ 1 + 0 = depth-of-region (record { params = []; ops = [] }) in
    omega (arith, h, first, second)
with-else-fits seen level op.ScfIf [] h = h
with-else-fits seen level op.ScfIf (r ∷ q ∷ rs) h = h
with-else-fits seen level _ regions h = h

pub op-of-fits : (seen level : ℕ) (o : OpenOp) → Fits seen level (regions_depth o.regions) → Fits seen level (depth_of_op (op_of o))
op-of-fits seen level o h =
    let whole : depth_of_op (op_of o) ≡ regions_depth (with_else o.kind o.regions) = depth-of-op _ in
    let fits = with-else-fits seen level o.kind o.regions h in
    omega (arith, whole, fits)

pub closed-region-depth : (b : OpenBody) (k : OpKind) (left : Option OpKind) (begun : ℕ)
    → depth_of_region (region_of b (with_made (body_ops k b.ops) left begun)) ≡ 1 + ops_depth b.ops
closed-region-depth b k left begun =
    let whole : depth_of_region (region_of b (with_made (body_ops k b.ops) left begun)) ≡ 1 + ops_depth (with_made (body_ops k b.ops) left begun) = depth-of-region _ in
    let made = with-made-depth (body_ops k b.ops) left begun in
    let kept = body-ops-depth k b.ops in
    omega (arith, whole, made, kept)
