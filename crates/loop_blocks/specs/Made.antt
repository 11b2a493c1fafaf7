-- What is made of a parallel loop beside numbers: calls, and loops that carry a truth.
use Rattle.std.specs.Prelude.{ℕ, ◌+◌, List, [], ◌∷◌, ◌++◌, map, codes}
use Rattle.op_table.specs.declared.kind.OpKind.{OpKind}
use Rattle.op_table.specs.declared.kind.OpKind.TheVariants as op
use Rattle.ir_forms.specs.declared.ops.Attr.TheVariants as attr
use Rattle.ir_forms.specs.declared.ops.Region.{Region, roll-Region}
use Rattle.ir_forms.specs.declared.ops.ValueNo.{ValueNo}
use Rattle.ir_forms.specs.declared.types.Ty.{Ty}
use Rattle.ir_forms.specs.declared.types.Ty.TheVariants as ty
use Rattle.made_ops.specs.declared.insertion.Insertion.{Insertion}
use Rattle.made_ops.specs.declared.insertion.Operand.TheVariants.{Value}
use Rattle.made_ops.specs.Made.{Makes, acts, and_then, binary, gives, inside, made_op, next_value, placed, truth, type_of, yields}
use Rattle.loop_blocks.specs.declared.making.Carried.{Carried}
use Rattle.loop_blocks.specs.declared.making.Course.{Course}

-- what is asserted of a loop says this where it fails
abbrev pub message : List ℕ
message = codes "parallel loop failed"

-- ---- values

-- values with their types
abbrev pub Typed : Type 0
Typed = List (ValueNo × Ty)

-- the next value
abbrev pub taken : Makes ValueNo
taken i = (next_value i, record i { free = i.free + 1 })

-- as many values as there are of these
abbrev pub each_taken : List ValueNo → Makes (List ValueNo)
each_taken [] i = ([], i)
each_taken (v ∷ vs) i = and_then taken (λ w. and_then (each_taken vs) (λ ws j. (w ∷ ws, j))) i

-- values with the types of these
abbrev pub renewed : Typed → Makes Typed
renewed [] i = ([], i)
renewed (p ∷ ps) i = and_then taken (λ w. and_then (renewed ps) (λ ws j. ((w, p.1) ∷ ws, j))) i

abbrev pub values_in : Typed → List ValueNo
values_in ps = map (λ p. p.0) ps

abbrev pub types_in : Typed → List Ty
types_in ps = map (λ p. p.1) ps

-- values that are numbers of turns, bounds or steps
abbrev pub indexes : List ValueNo → Typed
indexes vs = map (λ v. (v, ty.Index)) vs

-- ---- calls

-- a call, which tells a truth
abbrev pub asks : OpKind → List ℕ → Typed → Makes ValueNo
asks kind name args = gives kind (values_in args) (types_in args) (type_of truth) (attr.Callee name)

-- the truth that a function gives
abbrev pub calls : List ℕ → Typed → Makes ValueNo
calls name args = asks op.FuncCall name args

-- whether the call of a function succeeds
abbrev pub tries : List ℕ → Typed → Makes ValueNo
tries name args = asks op.AioTryCall name args

-- the end of a function that tells a truth
abbrev pub returns : ValueNo → Insertion → Insertion
returns v = acts op.FuncReturn (v ∷ []) (type_of truth ∷ []) attr.None

-- one more iteration: whether it succeeds, and all those before it did
unfoldable pub tries_body : List ℕ → Typed → List ValueNo → ValueNo → Makes ValueNo
tries_body name captured variables ok =
    and_then (tries name (indexes variables ++ captured)) (λ answer. binary op.ArithAndi truth (Value ok) (Value answer))

-- ---- regions with parameters

-- the region of what was made in it; behind it no constant of it is known
abbrev pub closed_with : Typed → Insertion → Insertion → Region × Insertion
closed_with params i inner = (roll-Region (record { params = params; ops = inner.ops }), record i { free = inner.free })

-- the region in which this is made
abbrev pub region_of : Typed → (Insertion → Insertion) → Makes Region
region_of params f i = closed_with params i (f (inside i))

-- ---- loops that carry a truth

abbrev pub course : ValueNo → ValueNo → ValueNo → ValueNo → Course
course lower upper step first = record { lower = lower; upper = upper; step = step; first = first }

unfoldable pub carried : Makes Carried
carried = and_then taken (λ last. and_then taken (λ variable. and_then taken (λ ok i. (record { last = last; variable = variable; ok = ok }, i))))

abbrev pub carried_params : Carried → Typed
carried_params l = (l.variable, ty.Index) ∷ (l.ok, type_of truth) ∷ []

-- a loop that holds this region
abbrev pub loop_with : Course → Carried → Region × Insertion → ValueNo × Insertion
loop_with c l made =
    (l.last, placed (made_op op.ScfFor (c.lower ∷ c.upper ∷ c.step ∷ c.first ∷ []) [] (l.last ∷ []) (type_of truth ∷ []) attr.None (made.0 ∷ []) made.1) made.1)

-- a loop; a turn tells by its number and the truth so far how that goes on
abbrev pub carries : Course → (ValueNo → ValueNo → Makes ValueNo) → Makes ValueNo
carries c turn = and_then carried (λ l i. loop_with c l (region_of (carried_params l) (and_then (turn l.variable l.ok) (yields truth)) i))
