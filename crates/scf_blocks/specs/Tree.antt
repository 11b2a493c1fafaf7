-- Operations as a tree: each structure in a constructor of its own, with what follows it.
use Rattle.std.specs.Prelude.{ℕ, zero, suc, List, [], ◌∷◌, drop, Option, Some, None, slice_get}
use Rattle.op_table.specs.declared.kind.OpKind.{OpKind}
use Rattle.op_table.specs.declared.kind.OpKind.TheVariants.{AsyncRuntimeCreateGroup, AsyncRuntimeAddToGroup}
use Rattle.op_table.specs.declared.form.Form.{Form}
use Rattle.op_table.specs.declared.form.Form.TheVariants as form
use Rattle.op_table.specs.Rows as table
use Rattle.ir_forms.specs.declared.ops.Attr.{Attr}
use Rattle.ir_forms.specs.declared.ops.Op.{Op, Op-F}
use Rattle.ir_forms.specs.declared.ops.Op.TheFolds.{fold-Op, fold-Region}
use Rattle.ir_forms.specs.declared.ops.Region.{Region, Region-F, out-Region}
use Rattle.ir_forms.specs.declared.ops.ValueNo.{ValueNo}
use Rattle.ir_forms.specs.declared.types.Ty.{Ty}
use Rattle.ir_forms.specs.declared.types.Ty.TheVariants.{Untyped}
use Rattle.ir_forms.specs.Ops.{ops_of}
use Rattle.low_forms.specs.declared.code.LowKind.{LowKind}
use Rattle.low_forms.specs.declared.code.LowKind.TheVariants.{Row, Launch}
use Rattle.scf_blocks.specs.declared.role.Role.{Role}
use Rattle.scf_blocks.specs.declared.role.Role.TheVariants as role

-- ---- what an operation becomes, by its form

abbrev pub role_by : Form → OpKind → Role
role_by form.Binary kind = role.Plain (Row kind)
role_by form.Compare kind = role.Plain (Row kind)
role_by form.Select kind = role.Plain (Row kind)
role_by form.Extend kind = role.Plain (Row kind)
role_by form.Truncate kind = role.Plain (Row kind)
role_by form.IndexCast kind = role.Plain (Row kind)
role_by form.Constant kind = role.Plain (Row kind)
role_by form.Alloc kind = role.Plain (Row kind)
role_by form.Dealloc kind = role.Plain (Row kind)
role_by form.Load kind = role.Plain (Row kind)
role_by form.Store kind = role.Plain (Row kind)
role_by form.Dim kind = role.Plain (Row kind)
role_by form.CreateGroup kind = role.Plain (Row AsyncRuntimeCreateGroup)
role_by form.AddToGroup kind = role.Plain (Row AsyncRuntimeAddToGroup)
role_by form.Execute kind = role.Plain Launch
role_by form.Assert kind = role.Assertion
role_by form.If kind = role.Choice
role_by form.For kind = role.Counted
role_by form.While kind = role.Tested
role_by form.Call kind = role.Call
role_by form.TryCall kind = role.TriedCall
role_by form.Await kind = role.Await
role_by form.AwaitAll kind = role.Await
role_by form.Return kind = role.End
role_by form.Yield kind = role.End
role_by form.TaskYield kind = role.End
role_by form.Condition kind = role.Condition
role_by form.Parallel kind = role.Nothing
role_by form.Reduce kind = role.Nothing
role_by form.Other kind = role.Nothing

abbrev pub role_of : OpKind → Role
role_of kind = role_by (table.row_of kind).form kind

-- ---- values with their types

abbrev pub Var : Type 0
Var = ValueNo × Ty

abbrev pub values_of : List Var → List ValueNo
values_of [] = []
values_of (x ∷ xs) = x.0 ∷ values_of xs

abbrev pub types_in : List Var → List Ty
types_in [] = []
types_in (x ∷ xs) = x.1 ∷ types_in xs

abbrev pub or_untyped : Option Ty → Ty
or_untyped None = Untyped
or_untyped (Some t) = t

-- results with the types that the form says
abbrev pub typed : List ValueNo → List Ty → List Var
typed [] ts = []
typed (x ∷ xs) [] = (x, Untyped) ∷ typed xs []
typed (x ∷ xs) (t ∷ ts) = (x, t) ∷ typed xs ts

-- ---- the tree

pub data Ops : Type 0 where
  -- the region ends with these values
  gives : List ValueNo → Ops
  -- the first region of a while loop ends with its condition and these values
  decides : Option ValueNo → List ValueNo → Ops
  -- one instruction
  plain : LowKind → Attr → (args : List ValueNo) → (results : List Var) → Ops → Ops
  asserts : (at : ℕ) → Option ValueNo → Ops → Ops
  branches : Option ValueNo → (on off : Ops) → (results : List Var) → Ops → Ops
  -- a counted loop's results are the values that its head takes
  counts : (lower upper step : Option ValueNo) → (inits : List ValueNo) → (params : List Var) → (body : Ops) → (results : List ValueNo) → Ops → Ops
  -- a while loop: what its first region takes, and what its second takes
  cycles : (inits : List ValueNo) → (params : List Var) → (before : Ops) → (passed : List Var) → (after : Ops) → (results : List Var) → Ops → Ops
  calls : Attr → (args : List ValueNo) → (results : List Var) → Ops → Ops
  tries : Attr → (args : List ValueNo) → (results : List Var) → Ops → Ops
  awaits : (at : ℕ) → Option ValueNo → (results : List Var) → Ops → Ops

-- a region: its parameters and its operations
pub record Nested : Type 0 where
  pub params : List Var
  pub ops : Ops

-- a region that is missing has no operations
abbrev pub nested_at : List Nested → ℕ → Nested
nested_at [] k = record { params = []; ops = gives [] }
nested_at (b ∷ bs) zero = b
nested_at (b ∷ bs) (suc k) = nested_at bs k

-- what an operation carries and what it has beside its regions
pub record Parts : Type 0 where
  pub at : ℕ
  pub operands : List ValueNo
  pub results : List Var
  pub attr : Attr

-- a region ends by its last operation
abbrev pub ends_region : Role → List ValueNo → Ops
ends_region role.Condition vs = decides (slice_get vs 0) (drop 1 vs)
ends_region _ vs = gives vs

-- an operation of this role, before these
abbrev pub op_before : Role → Parts → List Nested → Ops → Ops
op_before (role.Plain kind) o regions rest = plain kind o.attr o.operands o.results rest
op_before role.Assertion o regions rest = asserts o.at (slice_get o.operands 0) rest
op_before role.Choice o regions rest = branches (slice_get o.operands 0) (nested_at regions 0).ops (nested_at regions 1).ops o.results rest
op_before role.Counted o regions rest =
    counts (slice_get o.operands 0) (slice_get o.operands 1) (slice_get o.operands 2) (drop 3 o.operands)
    (nested_at regions 0).params (nested_at regions 0).ops (values_of o.results) rest
op_before role.Tested o regions rest =
    cycles o.operands (nested_at regions 0).params (nested_at regions 0).ops (nested_at regions 1).params (nested_at regions 1).ops o.results rest
op_before role.Call o regions rest = calls o.attr o.operands o.results rest
op_before role.TriedCall o regions rest = tries o.attr o.operands o.results rest
op_before role.Await o regions rest = awaits o.at (slice_get o.operands 0) o.results rest
op_before role.End o regions rest = gives o.operands
op_before role.Condition o regions rest = decides (slice_get o.operands 0) (drop 1 o.operands)
op_before role.Nothing o regions rest = rest

abbrev pub parts_of : {A B : Type 0} → Op-F A B → Parts
parts_of o = record { at = o.at; operands = o.operands; results = typed o.results o.types; attr = o.attr }

abbrev pub chained : List (Ops → Ops) → Ops
chained [] = gives []
chained (f ∷ fs) = f (chained fs)

abbrev pub op_step : Op-F (Ops → Ops) Nested → Ops → Ops
op_step o rest = op_before (role_of o.kind) (parts_of o) o.regions rest

abbrev pub region_step : Region-F (Ops → Ops) Nested → Nested
region_step r = record { params = r.params; ops = chained r.ops }

-- an operation before these
unfoldable pub tree_before : Op → Ops → Ops
tree_before = fold-Op (Ops → Ops) Nested op_step region_step

unfoldable pub nested_of : Region → Nested
nested_of = fold-Region (Ops → Ops) Nested op_step region_step

abbrev pub tree : List Op → Ops
tree [] = gives []
tree (op ∷ ops) = tree_before op (tree ops)

-- the regions of an operation; one that is missing has no operations
abbrev pub params_of : Region → List Var
params_of r = (out-Region r).params

abbrev pub params_at : List Region → ℕ → List Var
params_at [] k = []
params_at (r ∷ rs) zero = params_of r
params_at (r ∷ rs) (suc k) = params_at rs k

abbrev pub tree_at : List Region → ℕ → Ops
tree_at [] k = gives []
tree_at (r ∷ rs) zero = tree (ops_of r)
tree_at (r ∷ rs) (suc k) = tree_at rs k
