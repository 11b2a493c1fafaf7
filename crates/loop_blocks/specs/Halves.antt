-- The function that hands on blocks: of a range of blocks it launches the upper half, again and again, and runs the first block.
use Rattle.std.specs.Prelude.{ℕ, List, [], ◌∷◌}
use Rattle.int_ops.specs.declared.Pred.TheVariants.{Sgt}
use Rattle.op_table.specs.declared.kind.OpKind.TheVariants as op
use Rattle.ir_forms.specs.declared.ops.Attr.TheVariants as attr
use Rattle.ir_forms.specs.declared.ops.Func.{Func}
use Rattle.ir_forms.specs.declared.ops.Op.{roll-Op}
use Rattle.ir_forms.specs.declared.ops.Region.{Region}
use Rattle.ir_forms.specs.declared.ops.ValueNo.{ValueNo}
use Rattle.ir_forms.specs.declared.types.NumTy.TheVariants as num
use Rattle.ir_forms.specs.declared.types.Ty.TheVariants as ty
use Rattle.made_ops.specs.declared.insertion.Insertion.{Insertion}
use Rattle.made_ops.specs.declared.insertion.Operand.TheVariants.{Value, Number}
use Rattle.made_ops.specs.Made.{Makes, acts, and_then, asserts, begun, binary, compare, gives, made_op, placed, yields}
use Rattle.loop_blocks.specs.declared.halves.Range.{Range}
use Rattle.loop_blocks.specs.declared.told.Plan.{Plan}
use Rattle.loop_blocks.specs.declared.told.Told.{Told}
use Rattle.loop_blocks.specs.Made.{Typed, calls, message, region_of, returns, taken}
use Rattle.loop_blocks.specs.Blocks.{block_args, shared, told, truth_func}

-- the group, the first block and the end of the range come first
abbrev pub dispatch_args : Range → Told → Typed
dispatch_args r t = (r.group, ty.Group) ∷ (r.first, ty.Index) ∷ (r.end, ty.Index) ∷ shared t

abbrev pub launch_of : ValueNo → Region × Insertion → ValueNo × Insertion
launch_of token made =
    (token, placed (roll-Op (record { kind = op.AsyncExecute; at = made.1.at; operands = []; groups = 0 ∷ 0 ∷ []; written = []; results = token ∷ []; types = ty.Token ∷ []; attr = attr.None; regions = made.0 ∷ [] })) made.1)

-- a launch of what is made in this region
abbrev pub launches : (Insertion → Insertion) → Makes ValueNo
launches f = and_then taken (λ token i. launch_of token (region_of [] f i))

-- a range of blocks: it fails where one of them does
abbrev pub hands_on : List ℕ → Range → Told → Insertion → Insertion
hands_on dispatch r t = and_then (calls dispatch (dispatch_args r t)) (λ ok i. acts op.AsyncYield [] [] attr.None (asserts message ok i))

-- whether a range has more than one block
abbrev pub goes_on : ValueNo → ValueNo → Insertion → Insertion
goes_on first end =
    and_then (binary op.ArithSubi num.Index (Value end) (Value first)) (λ blocks.
    and_then (compare Sgt num.Index (Value blocks) (Number 1)) (λ several.
    acts op.ScfCondition (several ∷ end ∷ []) (ty.Index ∷ []) attr.None))

-- the first block of its upper half
abbrev pub middle : ValueNo → ValueNo → Makes ValueNo
middle first end =
    and_then (binary op.ArithSubi num.Index (Value end) (Value first)) (λ blocks.
    and_then (binary op.ArithDivui num.Index (Value blocks) (Number 2)) (λ half.
    binary op.ArithAddi num.Index (Value first) (Value half)))

-- the upper half is launched and added to the group; the lower half is left
abbrev pub halves : List ℕ → Range → Told → Insertion → Insertion
halves dispatch r t =
    and_then (middle r.first r.end) (λ mid.
    and_then (launches (hands_on dispatch (record r { first = mid }) t)) (λ token.
    and_then (gives op.AsyncAddToGroup (token ∷ r.group ∷ []) (ty.Token ∷ []) ty.Index attr.None) (λ rank. yields num.Index mid)))

-- the end of the range is carried
abbrev pub while_of : ValueNo → ValueNo → Region → Region × Insertion → ValueNo × Insertion
while_of left end before made =
    (left, placed (made_op op.ScfWhile (end ∷ []) (ty.Index ∷ []) (left ∷ []) (ty.Index ∷ []) attr.None (before ∷ made.0 ∷ []) made.1) made.1)

-- as long as the range has more than one block
abbrev pub halving : List ℕ → Range → Told → Makes ValueNo
halving dispatch r t =
    and_then taken (λ left.
    and_then taken (λ e. and_then (region_of ((e, ty.Index) ∷ []) (goes_on r.first e)) (λ before.
    and_then taken (λ f i. while_of left r.end before (region_of ((f, ty.Index) ∷ []) (halves dispatch (record r { end = f }) t) i)))))

unfoldable pub dispatch_ops : List ℕ → List ℕ → Range → Told → Insertion → Insertion
dispatch_ops dispatch block r t = and_then (halving dispatch r t) (λ left. and_then (calls block (block_args r.first t)) returns)

unfoldable pub dispatch_func_of : Plan → Range → Told → Insertion → Func
dispatch_func_of p r t i = truth_func p.dispatch (dispatch_args r t) (dispatch_ops p.dispatch p.block r t i)

unfoldable pub range_taken : Makes Range
range_taken = and_then taken (λ group. and_then taken (λ first. and_then taken (λ end i. (record { group = group; first = first; end = end }, i))))

abbrev pub dispatch_func : Plan → Func
dispatch_func p = and_then range_taken (λ r. and_then (told p) (dispatch_func_of p r)) (begun p.at 0)
