-- A module without parallel loops: the body of each is a function, which blocks of iterations call, or serial loops.
use Rattle.std.specs.Prelude.{◌≡◌, ℕ, ◌+◌, cond, Bool, true, false, List, [], ◌∷◌, ◌++◌, map, take, drop, slice_get, Option, Some, None, codes}
use Rattle.op_table.specs.declared.kind.OpKind.{OpKind}
use Rattle.op_table.specs.declared.kind.OpKind.TheVariants as op
use Rattle.ir_forms.specs.declared.ops.Attr.TheVariants as attr
use Rattle.ir_forms.specs.declared.ops.Op.{Op, Op-F, roll-Op}
use Rattle.ir_forms.specs.declared.ops.Op.TheFolds.{fold-Op, fold-Region}
use Rattle.ir_forms.specs.declared.ops.Region.{Region, Region-F, out-Region, roll-Region}
use Rattle.ir_forms.specs.declared.ops.Func.{Func}
use Rattle.ir_forms.specs.declared.ops.Module.{Module}
use Rattle.ir_forms.specs.declared.ops.ValueNo.{ValueNo}
use Rattle.ir_forms.specs.declared.types.Ty.{Ty}
use Rattle.ir_forms.specs.Numbers.{joined}
use Rattle.ir_verify.specs.declared.place.Nest.{Nest}
use Rattle.ir_verify.specs.declared.place.Nest.TheVariants.{InFunction}
use Rattle.ir_verify.specs.Calls.{AreMarks, graph_of, is_marked}
use Rattle.ir_verify.specs.Places.{nest_in}
use Rattle.source_meaning.specs.Steps.{split_in}
use Rattle.value_numbers.specs.Numbers.{value_numbered}
use Rattle.made_ops.specs.declared.insertion.Insertion.{Insertion}
use Rattle.made_ops.specs.Made.{begun}
use Rattle.made_funcs.specs.Captures.{captures}
use Rattle.made_funcs.specs.Names.{made_name}
use Rattle.made_funcs.specs.Values.{Typed, first_free, typed_in, values_of}
use Rattle.loop_blocks.specs.declared.told.Plan.{Plan}
use Rattle.parallel_for.specs.declared.walk.Next.{Next}
use Rattle.loop_blocks.specs.declared.options.Options.{Options}
use Rattle.loop_blocks.specs.Blocks.{block_func}
use Rattle.loop_blocks.specs.Halves.{dispatch_func}
use Rattle.loop_blocks.specs.Loops.{serial_loop, split_loop}

-- ---- the operands of a parallel loop, in groups

abbrev pub lowers_of : List ℕ → List ValueNo → List ValueNo
lowers_of (a ∷ groups) vs = take a vs
lowers_of _ vs = []

abbrev pub uppers_of : List ℕ → List ValueNo → List ValueNo
uppers_of (a ∷ b ∷ groups) vs = take b (drop a vs)
uppers_of _ vs = []

abbrev pub steps_of : List ℕ → List ValueNo → List ValueNo
steps_of (a ∷ b ∷ c ∷ groups) vs = take c (drop b (drop a vs))
steps_of _ vs = []

-- ---- what is made of one loop

-- the loop with this number in the order of the text, with what is captured, and the names of its functions
abbrev pub plan : {X Y : Type 0} → List Func → ℕ → Op-F X Y → Typed → Plan
plan funcs k o captured = record {
  at = o.at;
  lowers = lowers_of o.groups o.operands;
  uppers = uppers_of o.groups o.operands;
  steps = steps_of o.groups o.operands;
  captured = captured;
  body = made_name funcs (codes "aio.body.") k;
  block = made_name funcs (codes "aio.block.") k;
  dispatch = made_name funcs (codes "aio.dispatch.") k;
}

-- the end of a function that gives nothing
abbrev pub return_at : ℕ → Op
return_at at = roll-Op (record { kind = op.FuncReturn; at = at; operands = []; groups = []; written = []; results = []; types = []; attr = attr.None; regions = [] })

-- an iteration, whose region has no end of its own any more
abbrev pub body_func : Plan → Region → Func
body_func p region = record {
  name = p.body;
  params = (out-Region region).params ++ p.captured;
  results = [];
  body = roll-Region (record { params = []; ops = (out-Region region).ops ++ return_at p.at ∷ [] });
  at = p.at;
}

-- a serial loop has no other function
abbrev pub loop_funcs : Bool → Plan → Region → List Func
loop_funcs true p region =
    body_func p region
    ∷ block_func p
    ∷ dispatch_func p
    ∷ []
loop_funcs false p region = body_func p region ∷ []

abbrev pub replaces : Options → Bool → Plan → Insertion → Insertion
replaces options true p i = split_loop options p i
replaces options false p i = serial_loop p i

-- what stands in its place, whose values are numbered from here on
abbrev pub replacement : Options → Bool → Plan → ℕ → Insertion
replacement options split p free = replaces options split p (begun p.at free)

-- ---- a module

-- What comes of a thing that stands here, before which so many loops stand, where a function's values are numbered from a
-- number on: itself without parallel loops, the functions of the loops in it, those of an outer loop before those of the
-- loops in it, and where both numbers go on.
abbrev pub Splitting : Type 0 → Type 0
Splitting A = Nest → Next → A × List Func × Next

-- one after another
abbrev pub in_order : {A : Type 0} → Nest → List (Nest → Next → A × List Func × Next) → Next → List A × List Func × Next
in_order nest [] n = ([], [], n)
in_order nest (f ∷ fs) n = (
  (f nest n).0 ∷ (in_order nest fs (f nest n).2).0,
  (f nest n).1 ++ (in_order nest fs (f nest n).2).1,
  (in_order nest fs (f nest n).2).2,
)

abbrev pub is_parallel : OpKind → Bool
is_parallel op.ScfParallel = true
is_parallel _ = false

abbrev pub is_reduce : OpKind → Bool
is_reduce op.ScfReduce = true
is_reduce _ = false

-- the region of a parallel loop
abbrev pub loop_region : {X : Type 0} → OpKind → List X → Option X
loop_region kind regions = cond (is_parallel kind) (slice_get regions 0) None

-- an operation that is no parallel loop keeps its regions; the end of a parallel loop's region goes
abbrev pub kept_op : {X Y : Type 0} → Op-F X Y → List Region → List Op
kept_op o regions =
    cond (is_reduce o.kind) [] (roll-Op (record { kind = o.kind; at = o.at; operands = o.operands; groups = o.groups; written = o.written; results = o.results; types = o.types; attr = o.attr; regions = regions }) ∷ [])

abbrev pub kept : {X Y : Type 0} → Op-F X Y → List Region × List Func × Next → List Op × List Func × Next
kept o made = (kept_op o made.0, made.1, made.2)

-- operations one after another
abbrev pub flat : List (List Op) × List Func × Next → List Op × List Func × Next
flat made = (joined made.0, made.1, made.2)

-- a region of these operations
abbrev pub region_with : List (ValueNo × Ty) → List Op × List Func × Next → Region × List Func × Next
region_with params made = (roll-Region (record { params = params; ops = made.0 }), made.1, made.2)

-- with what its region captures
abbrev pub planned : {X Y : Type 0} → List Func → Typed → ℕ → Op-F X Y → Region → Plan
planned funcs values k o region = plan funcs k o (typed_in values (captures region))

module _ (options : Options) (funcs : List Func) (called : Bool) (values : Typed) where
  -- a loop, from what its region becomes
  abbrev pub replaced : Bool → Plan → Region × List Func × Next → List Op × List Func × Next
  replaced split p made = (
    (replacement options split p made.2.free).ops,
    loop_funcs split p made.0 ++ made.1,
    record { loops = made.2.loops; free = (replacement options split p made.2.free).free },
  )

  abbrev pub looped : {X Y : Type 0} → Op-F X Y → Nest → Next → Region × List Func × Next → List Op × List Func × Next
  looped o nest n made = replaced (split_in nest called) (planned funcs values n.loops o made.0) made

  abbrev pub split_as : Op-F (Splitting (List Op)) (Splitting Region) → Option (Splitting Region) → Splitting (List Op)
  split_as o (Some r) nest n = looped o nest n (r (nest_in o.kind nest) (record n { loops = n.loops + 1 }))
  split_as o None nest n = kept o (in_order (nest_in o.kind nest) o.regions n)

  abbrev pub op_split : Op-F (Splitting (List Op)) (Splitting Region) → Splitting (List Op)
  op_split o nest n = split_as o (loop_region o.kind o.regions) nest n

  abbrev pub region_split : Region-F (Splitting (List Op)) (Splitting Region) → Splitting Region
  region_split r nest n = region_with r.params (flat (in_order nest r.ops n))

  abbrev pub split_op : Op → Splitting (List Op)
  split_op = fold-Op (Splitting (List Op)) (Splitting Region) op_split region_split

  abbrev pub split_region : Region → Splitting Region
  split_region = fold-Region (Splitting (List Op)) (Splitting Region) op_split region_split

-- a function before which so many loops stand; whether a task calls it
abbrev pub split_func : Options → List Func → Bool → Func → ℕ → Region × List Func × Next
split_func options funcs called f k =
    split_region options funcs called (values_of f) f.body InFunction (record { loops = k; free = first_free (values_of f) })

-- a function with what its body becomes, before others
abbrev pub before_others : Func → Region × List Func × Next → (ℕ → List Func × List Func) → List Func × List Func
before_others f made more = (record f { body = made.0 } ∷ (more made.2.loops).0, made.1 ++ (more made.2.loops).1)

-- the functions from this place on
abbrev pub split_funcs : Options → List Func → List Bool → ℕ → List Func → ℕ → List Func × List Func
split_funcs options funcs called place [] k = ([], [])
split_funcs options funcs called place (f ∷ fs) k =
    before_others f (split_func options funcs (is_marked (slice_get called place)) f k) (split_funcs options funcs called (place + 1) fs)

-- the functions that are made stand behind all others
abbrev pub module_of : List Func × List Func → Module
module_of made = record { funcs = made.0 ++ made.1 }

-- by the marks of the functions that tasks call
abbrev pub split : Options → List Bool → Module → Module
split options called program = value_numbered (module_of (split_funcs options program.funcs called 0 program.funcs 0))

-- what the pass makes of a module
pub record IsSplit (options : Options) (program made : Module) : Type 0 where
  pub called : List Bool
  pub marks : AreMarks (graph_of program.funcs) called
  pub is : made ≡ split options called program
