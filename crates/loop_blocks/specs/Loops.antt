-- What stands in the place of a parallel loop.
use Rattle.std.specs.Prelude.{ℕ, List, [], ◌∷◌, ◌++◌}
use Rattle.int_ops.specs.declared.Pred.TheVariants.{Eq, Sgt}
use Rattle.op_table.specs.declared.kind.OpKind.TheVariants as op
use Rattle.ir_forms.specs.declared.ops.Attr.TheVariants as attr
use Rattle.ir_forms.specs.declared.ops.ValueNo.{ValueNo}
use Rattle.ir_forms.specs.declared.types.NumTy.TheVariants as num
use Rattle.ir_forms.specs.declared.types.Ty.TheVariants as ty
use Rattle.made_ops.specs.declared.insertion.Insertion.{Insertion}
use Rattle.made_ops.specs.declared.insertion.Operand.TheVariants.{Value, Number}
use Rattle.made_ops.specs.Made.{Makes, acts, and_then, asserts, binary, chooses, compare, constant, gives, truth, turns}
use Rattle.loop_blocks.specs.declared.halves.Range.{Range}
use Rattle.loop_blocks.specs.declared.options.Options.{Options}
use Rattle.loop_blocks.specs.declared.told.Plan.{Plan}
use Rattle.loop_blocks.specs.declared.told.Told.{Told}
use Rattle.loop_blocks.specs.Made.{Typed, calls, carries, course, message, tries_body}
use Rattle.loop_blocks.specs.Blocks.{block_args, block_count, block_size}
use Rattle.loop_blocks.specs.Halves.{dispatch_args}

-- ---- a split loop

-- the turns of each dimension
abbrev pub all_turns : List ValueNo → List ValueNo → List ValueNo → Makes (List ValueNo)
all_turns (lower ∷ lowers) (upper ∷ uppers) (step ∷ steps) i =
    and_then (turns lower upper step) (λ n. and_then (all_turns lowers uppers steps) (λ ns j. (n ∷ ns, j))) i
all_turns _ _ _ i = ([], i)

abbrev pub product_from : ValueNo → List ValueNo → Makes ValueNo
product_from n [] i = (n, i)
product_from n (m ∷ ms) i = and_then (binary op.ArithMuli num.Index (Value n) (Value m)) (λ product. product_from product ms) i

-- their product, from left to right
abbrev pub product : List ValueNo → Makes ValueNo
product [] = constant num.Index 1
product (n ∷ ns) = product_from n ns

-- one block alone
abbrev pub one_block : List ℕ → Told → Makes ValueNo
one_block block t = and_then (constant num.Index 0) (λ zero. calls block (block_args zero t))

abbrev pub blocks_from : ValueNo → ValueNo → ValueNo → Range
blocks_from group first end = record { group = group; first = first; end = end }

-- several blocks: all but the first are elements of a group
abbrev pub several_blocks : List ℕ → ValueNo → Told → Makes ValueNo
several_blocks dispatch count t =
    and_then (binary op.ArithSubi num.Index (Value count) (Number 1)) (λ others.
    and_then (gives op.AsyncCreateGroup (others ∷ []) [] ty.Group attr.None) (λ group.
    and_then (constant num.Index 0) (λ zero.
    and_then (calls dispatch (dispatch_args (blocks_from group zero count) t)) (λ ok i. (ok, acts op.AsyncAwaitAll (group ∷ []) [] attr.None i)))))

abbrev pub chooses_blocks : Plan → ValueNo → Told → Makes ValueNo
chooses_blocks p count t =
    and_then (compare Eq num.Index (Value count) (Number 1)) (λ is_one. chooses truth is_one (one_block p.block t) (several_blocks p.dispatch count t))

abbrev pub told_of : Plan → List ValueNo → ValueNo → ValueNo → Told
told_of p turns trip size = record { size = size; trip = trip; lowers = p.lowers; steps = p.steps; turns = turns; captured = p.captured }

-- its iterations in blocks
unfoldable pub runs_blocks : Options → Plan → List ValueNo → ValueNo → Makes ValueNo
runs_blocks options p turns trip =
    and_then (block_size options.workers options.least trip) (λ size.
    and_then (block_count trip size) (λ count. chooses_blocks p count (told_of p turns trip size)))

-- where it has any
abbrev pub split_loop : Options → Plan → Insertion → Insertion
split_loop options p =
    and_then (all_turns p.lowers p.uppers p.steps) (λ ns.
    and_then (product ns) (λ trip.
    and_then (compare Sgt num.Index (Value trip) (Number 0)) (λ some.
    and_then (chooses truth some (runs_blocks options p ns trip) (constant truth 1)) (asserts message))))

-- ---- a serial loop

-- loops over the dimensions that are left, within those that have these variables
abbrev pub nested : List ℕ → Typed → List ValueNo → List ValueNo → List ValueNo → List ValueNo → ValueNo → Makes ValueNo
nested body captured (lower ∷ lowers) (upper ∷ uppers) (step ∷ steps) vs ok =
    carries (course lower upper step ok) (λ v. nested body captured lowers uppers steps (vs ++ v ∷ []))
nested body captured _ _ _ vs ok = tries_body body captured vs ok

-- one loop for each dimension, the first one outermost
abbrev pub serial_loop : Plan → Insertion → Insertion
serial_loop p =
    and_then (constant truth 1) (λ ok. and_then (nested p.body p.captured p.lowers p.uppers p.steps [] ok) (asserts message))
