-- The places of a module's operations: what stands round an operation, and the values that it sees.
use Rattle.std.specs.Option.{unwrap_or}
use Rattle.std.specs.Prelude.{ℕ, ◌+◌, slice_get, Bool, true, false, List, [], ◌∷◌, ◌++◌, Option, Some, None}
use Rattle.op_table.specs.declared.kind.OpKind.{OpKind}
use Rattle.op_table.specs.declared.kind.OpKind.TheVariants.{AsyncExecute, ScfParallel}
use Rattle.ir_forms.specs.declared.ops.Op.{Op, Op-F, out-Op}
use Rattle.ir_forms.specs.declared.ops.Op.TheFolds.{fold-Op}
use Rattle.ir_forms.specs.declared.ops.Region.{Region, Region-F, out-Region}
use Rattle.ir_forms.specs.declared.ops.Op.TheFolds.{fold-Region}
use Rattle.ir_forms.specs.declared.ops.Attr.{Attr}
use Rattle.ir_forms.specs.declared.ops.Attr.TheVariants.{Callee}
use Rattle.ir_forms.specs.declared.ops.Func.{Func}
use Rattle.ir_forms.specs.declared.ops.ValueNo.{ValueNo}
use Rattle.ir_forms.specs.declared.types.Ty.{Ty}
use Rattle.ir_forms.specs.declared.types.Ty.TheVariants.{Untyped}
use Rattle.ir_forms.specs.Ops.{kind_of, results_of, regions_of, ops_of, attr_of}
use Rattle.ir_verify.specs.declared.place.Nest.{Nest}
use Rattle.ir_verify.specs.declared.place.Nest.TheVariants.{InFunction, InTask, InLoop}
use Rattle.std.specs.Str.{bytes_eq}
use Rattle.std.specs.List.{find}

-- the values that are visible at a place, with their types, in the order of their definitions
abbrev pub Seen : Type 0
Seen = List (ValueNo × Ty)

abbrev pub types_of : Op → List Ty
types_of op = (out-Op op).types

abbrev pub params_of : Region → Seen
params_of region = (out-Region region).params

-- the results of an operation with their types; one that the form gives no type is untyped
abbrev pub defined : List ValueNo → List Ty → Seen
defined [] types = []
defined (v ∷ vs) [] = (v, Untyped) ∷ defined vs []
defined (v ∷ vs) (t ∷ ts) = (v, t) ∷ defined vs ts

-- the first function of a name
abbrev pub named : List Func → List ℕ → Option Func
named funcs name = find (λ f. bytes_eq f.name name) funcs

-- What stands round the operations of a region: the function, whether a task calls it, the operation that holds the
-- region, if it isn't the function's body, with the region's place in it, and what is nearest of task, parallel loop
-- and function.
pub record Around : Type 0 where
  pub func : Func
  pub is_called : Bool
  pub holder : Option Op
  pub region : ℕ
  pub nest : Nest

-- One operation in its place: what stands round it, whether it is its region's last, and the function that it calls.
pub record Place : Type 0 where
  pub around : Around
  pub is_last : Bool
  pub callee : Option Func
  pub op : Op

-- with the values that the operation sees
pub record Spot : Type 0 where
  pub seen : Seen
  pub place : Place

abbrev pub nest_in : OpKind → Nest → Nest
nest_in AsyncExecute nest = InTask
nest_in ScfParallel nest = InLoop
nest_in _ nest = nest

-- what stands round the operations of a region of this operation
abbrev pub within : Around → Op → ℕ → Around
within around op r = record around { holder = Some op; region = r; nest = nest_in (kind_of op) around.nest }

abbrev pub called_name : Attr → Option (List ℕ)
called_name (Callee name) = Some name
called_name _ = None

-- the function that an operation names, if there is one
abbrev pub called : List Func → Attr → Option Func
called funcs (Callee name) = named funcs name
called funcs _ = None

abbrev pub place_of : List Func → Around → Bool → Op → Place
place_of funcs around last op = record { around = around; is_last = last; callee = called funcs (attr_of op); op = op }

abbrev pub is_none_left : {A : Type 0} → List A → Bool
is_none_left [] = true
is_none_left (x ∷ xs) = false

-- ---- all places, an operation before those of its regions

abbrev pub OfOp : Type 0
OfOp = Op → Around → Seen → Bool → List Spot

abbrev pub OfRegion : Type 0
OfRegion = Region → Around → Seen → List Spot

module _ (funcs : List Func) where
  abbrev pub of_regions : List OfRegion → List Region → Around → Op → ℕ → Seen → List Spot
  of_regions (f ∷ fs) (region ∷ regions) around op r seen = f region (within around op r) seen ++ of_regions fs regions around op (r + 1) seen
  of_regions _ _ around op r seen = []

  abbrev pub of_ops : List OfOp → List Op → Around → Seen → List Spot
  of_ops (f ∷ fs) (op ∷ ops) around seen = f op around seen (is_none_left ops) ++ of_ops fs ops around (seen ++ defined (results_of op) (types_of op))
  of_ops _ _ around seen = []

  abbrev pub op_step : Op-F OfOp OfRegion → OfOp
  op_step layer op around seen last = record { seen = seen; place = place_of funcs around last op } ∷ of_regions layer.regions (regions_of op) around op 0 seen

  abbrev pub region_step : Region-F OfOp OfRegion → OfRegion
  region_step layer region around seen = of_ops layer.ops (ops_of region) around (seen ++ params_of region)

  -- the places of an operation that stands here, sees these values and is its region's last one or not
  unfoldable pub places_at : OfOp
  places_at op around seen last = fold-Op OfOp OfRegion op_step region_step op op around seen last

  -- the places of a region: its parameters are visible in it
  unfoldable pub places_in : OfRegion
  places_in region around seen = fold-Region OfOp OfRegion op_step region_step region region around seen

  -- each operation of a list sees the results of those before it
  abbrev pub places_along : List Op → Around → Seen → List Spot
  places_along [] around seen = []
  places_along (op ∷ ops) around seen = places_at op around seen (is_none_left ops) ++ places_along ops around (seen ++ defined (results_of op) (types_of op))

  -- the places of these regions of an operation, which number from r on
  abbrev pub places_held : List Region → Around → Op → ℕ → Seen → List Spot
  places_held [] around op r seen = []
  places_held (region ∷ regions) around op r seen = places_in region (within around op r) seen ++ places_held regions around op (r + 1) seen

-- what stands round the operations of a function's body, and what these see
abbrev pub in_body : Func → Bool → Around
in_body f is_called = record { func = f; is_called = is_called; holder = None; region = 0; nest = InFunction }

-- the type at a place, if there is one
abbrev pub type_at : List Ty → ℕ → Ty
type_at types i = unwrap_or (slice_get types i) Untyped
