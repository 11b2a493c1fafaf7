-- The iterations of a parallel loop in blocks: how many a block has, and the function that runs one block.
use Rattle.std.specs.Prelude.{ℕ, ◌*◌, List, [], ◌∷◌, ◌++◌, drop}
use Rattle.op_table.specs.declared.kind.OpKind.TheVariants as op
use Rattle.ir_forms.specs.declared.ops.Func.{Func}
use Rattle.ir_forms.specs.declared.ops.Region.{roll-Region}
use Rattle.ir_forms.specs.declared.ops.ValueNo.{ValueNo}
use Rattle.ir_forms.specs.declared.types.NumTy.TheVariants as num
use Rattle.ir_forms.specs.declared.types.Ty.TheVariants as ty
use Rattle.made_ops.specs.declared.insertion.Insertion.{Insertion}
use Rattle.made_ops.specs.declared.insertion.Operand.{Operand}
use Rattle.made_ops.specs.declared.insertion.Operand.TheVariants.{Value, Number}
use Rattle.made_ops.specs.Made.{Makes, and_then, begun, binary, compare, constant, truth, type_of}
use Rattle.loop_blocks.specs.declared.making.Course.{Course}
use Rattle.loop_blocks.specs.declared.told.Plan.{Plan}
use Rattle.loop_blocks.specs.declared.told.Told.{Told}
use Rattle.loop_blocks.specs.Made.{Typed, carries, course, each_taken, indexes, renewed, returns, taken, tries_body}

-- ---- numbers of blocks

-- a quotient, rounded up
abbrev pub rounded_up : Operand → Operand → Makes ValueNo
rounded_up n d =
    and_then (binary op.ArithAddi num.Index n d) (λ sum.
    and_then (binary op.ArithSubi num.Index (Value sum) (Number 1)) (λ less.
    binary op.ArithDivui num.Index (Value less) d))

-- How many iterations a block has: so many that each worker gets four blocks, and no fewer than the least number, where
-- there are so many.
abbrev pub block_size : ℕ → ℕ → ValueNo → Makes ValueNo
block_size workers least trip =
    and_then (rounded_up (Value trip) (Number (4 * workers))) (λ share.
    and_then (binary op.ArithMaxui num.Index (Value share) (Number least)) (λ size.
    binary op.ArithMinui num.Index (Value trip) (Value size)))

abbrev pub block_count : ValueNo → ValueNo → Makes ValueNo
block_count trip size = rounded_up (Value trip) (Value size)

-- ---- what a block is told

-- the size of a block and the number of iterations; of each dimension the lower bound, the step and the turns; what the
-- iterations use from outside
abbrev pub shared : Told → Typed
shared t = (t.size, ty.Index) ∷ (t.trip, ty.Index) ∷ (indexes t.lowers ++ (indexes t.steps ++ (indexes t.turns ++ t.captured)))

-- the number of the block comes first
abbrev pub block_args : ValueNo → Told → Typed
block_args block t = (block, ty.Index) ∷ shared t

-- the parameters for this
abbrev pub told : Plan → Makes Told
told p =
    and_then taken (λ size. and_then taken (λ trip.
    and_then (each_taken p.lowers) (λ lowers. and_then (each_taken p.lowers) (λ steps. and_then (each_taken p.lowers) (λ turns.
    and_then (renewed p.captured) (λ captured i.
    (record { size = size; trip = trip; lowers = lowers; steps = steps; turns = turns; captured = captured }, i)))))))

-- ---- one iteration of a block

-- a number by the turns of a dimension: the quotient, and the rest
abbrev pub split_number : ValueNo → ValueNo → Makes (ValueNo × ValueNo)
split_number n turns =
    and_then (binary op.ArithRemui num.Index (Value n) (Value turns)) (λ rest.
    and_then (binary op.ArithDivui num.Index (Value n) (Value turns)) (λ quotient i. ((quotient, rest), i)))

-- the numbers in the dimensions that have these turns, from the last one on, and what is left of a linear number
abbrev pub numbers : List ValueNo → ValueNo → Makes (ValueNo × List ValueNo)
numbers [] n i = ((n, []), i)
numbers (turns ∷ more) n i =
    and_then (numbers more n) (λ later. and_then (split_number later.0 turns) (λ found j. ((found.0, found.1 ∷ later.1), j))) i

-- the variable of a number
abbrev pub at_number : ValueNo → ValueNo → ValueNo → Makes ValueNo
at_number lower step n =
    and_then (binary op.ArithMuli num.Index (Value n) (Value step)) (λ distance. binary op.ArithAddi num.Index (Value lower) (Value distance))

-- the variables by their numbers
abbrev pub variables : List ValueNo → List ValueNo → List ValueNo → Makes (List ValueNo)
variables (lower ∷ lowers) (step ∷ steps) (n ∷ ns) i =
    and_then (at_number lower step n) (λ v. and_then (variables lowers steps ns) (λ vs j. (v ∷ vs, j))) i
variables _ _ _ i = ([], i)

-- the iteration of this linear number: the last dimension is the fastest
unfoldable pub iteration : List ℕ → Told → ValueNo → ValueNo → Makes ValueNo
iteration body t n ok =
    and_then (numbers (drop 1 t.turns) n) (λ found.
    and_then (variables t.lowers t.steps (found.0 ∷ found.1)) (λ vs. tries_body body t.captured vs ok))

-- ---- the function of a block

-- a function that tells a truth, with what was made in it
abbrev pub truth_func : List ℕ → Typed → Insertion → Func
truth_func name params i = record {
  name = name;
  params = params;
  results = type_of truth ∷ [];
  body = roll-Region (record { params = []; ops = i.ops });
  at = i.at;
}

-- the linear numbers of a block, up to the last one that there is
abbrev pub block_range : ValueNo → Told → Makes Course
block_range block t =
    and_then (binary op.ArithMuli num.Index (Value block) (Value t.size)) (λ first.
    and_then (binary op.ArithAddi num.Index (Value first) (Value t.size)) (λ next.
    and_then (binary op.ArithMinui num.Index (Value next) (Value t.trip)) (λ end.
    and_then (constant num.Index 1) (λ one.
    and_then (constant truth 1) (λ ok i. (course first end one ok, i))))))

unfoldable pub block_ops : List ℕ → ValueNo → Told → Insertion → Insertion
block_ops body block t = and_then (block_range block t) (λ range. and_then (carries range (iteration body t)) returns)

unfoldable pub block_func_of : Plan → ValueNo → Told → Insertion → Func
block_func_of p block t i = truth_func p.block (block_args block t) (block_ops p.body block t i)

abbrev pub block_func : Plan → Func
block_func p = and_then taken (λ block. and_then (told p) (block_func_of p block)) (begun p.at 0)
