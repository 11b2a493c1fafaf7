-- Operations whose regions are typed.
use Rattle.std.specs.Prelude.{◌≡◌, ℕ, false, List, [], ◌∷◌, ◌++◌, map, Some, true, slice_get}
use Rattle.ir_forms.specs.declared.ops.Attr.TheVariants.{Callee}
use Rattle.ir_forms.specs.declared.ops.Func.{Func}
use Rattle.ir_forms.specs.declared.ops.Module.{Module}
use Rattle.ir_forms.specs.declared.ops.Op.{Op, out-Op}
use Rattle.ir_forms.specs.declared.ops.Region.{Region}
use Rattle.ir_forms.specs.declared.ops.ValueNo.{ValueNo}
use Rattle.ir_forms.specs.declared.types.Ty.{Ty}
use Rattle.ir_forms.specs.Ops.{kind_of, attr_of, operands_of, ops_of, regions_of, results_of, written_of}
use Rattle.ir_verify.specs.Forms.{form}
use Rattle.ir_verify.specs.Places.{Seen, Spot, params_of, types_of}
use Rattle.ir_verify.specs.Rules.{groups_of}
use Rattle.ir_verify.specs.Scopes.{lookup}
use Rattle.low_forms.specs.declared.code.LowKind.TheVariants.{Launch}
use Rattle.mlir_print.specs.Printable.{HasForm}
use Rattle.scf_blocks.specs.declared.role.Role.{Role}
use Rattle.scf_blocks.specs.declared.role.Role.TheVariants as role
use Rattle.scf_blocks.specs.Lowered.{is_task}
use Rattle.scf_blocks.specs.Tree.{Ops, role_of, tree, tree_before, typed, types_in}
use Rattle.typed_rows.specs.Typed.{AreTypes, Env, HasTypes, IsCode, Names, TypedOps, with_typed}
use Rattle.exec_outline.specs.Shape.{Typed, as_values, dependency_count, launch, tokens, typed_in}
use Rattle.plain_rows.specs.Laws.{IsFine}
use Rattle.outlined_types.specs.Forms.{end_types, end_types_in}
use Rattle.outlined_types.specs.Tasks.{results_of_task}

-- the second operation is the first one, but for what stands in its regions
pub record IsKept (o p : Op) : Type 0 where
  pub at : (out-Op p).at ≡ (out-Op o).at
  pub kind : kind_of p ≡ kind_of o
  pub operands : operands_of p ≡ operands_of o
  pub results : results_of p ≡ results_of o
  pub types : types_of p ≡ types_of o
  pub attr : attr_of p ≡ attr_of o
  pub params : map params_of (regions_of p) ≡ map params_of (regions_of o)

-- these values are visible here as they are there
abbrev pub AreShown : Seen → Env → List ValueNo → Type 0
AreShown seen env [] = Unit {0}
AreShown seen env (v ∷ vs) = ((t : Ty) → lookup seen v.0 ≡ Some t → lookup env v.0 ≡ Some t) × AreShown seen env vs

-- the function that a call names has the types of the one that was called, and is no task
pub record IsFound (program : Module) (o : Op) (f : Func) : Type 0 where
  pub func : Func
  pub names : Names program.funcs (attr_of o) func
  pub plainly : is_task (ops_of func.body) ≡ false
  pub params : types_in func.params ≡ types_in f.params
  pub results : func.results ≡ f.results

abbrev pub is_end : Role → Type 0
is_end role.End = Unit {0}
is_end role.Condition = Unit {0}
is_end _ = ⊥

-- An operation before these, where its regions are typed with what they ask of their ends, and these are typed behind it, unless
-- it ends its region: then all are to give what the region asks.
pub record Stands (program : Module) (given : List Ty) (s : Spot) (p : Op) (env : Env) (rest : Ops) (ts : List Ty) : Type 0 where
  pub kept : IsKept s.place.op p
  pub shown : AreShown s.seen env (operands_of s.place.op)
  pub code : IsCode (out-Op s.place.op).at
  pub found : (f : Func) → s.place.callee ≡ Some f → IsFound program s.place.op f
  pub regions :
      (i : ℕ) (r : Region) → slice_get (regions_of p) i ≡ Some r → TypedOps program given (tree (ops_of r)) (with_typed (params_of r) env) (end_types_in (form s.place.op) s.place.op i)
  pub ends : is_end (role_of (kind_of s.place.op)) → ts ≡ end_types s.place.around
  pub behind : (is_end (role_of (kind_of s.place.op)) → ⊥) → TypedOps program given rest (with_typed (typed (results_of s.place.op) (types_of s.place.op)) env) ts

-- is typed with these; launches aside
abbrev pub OperationsTyped : Type 0
OperationsTyped =
    (program : Module) (given : List Ty) (s : Spot) (p : Op) (env : Env) (rest : Ops) (ts : List Ty)
    → IsFine s → HasForm (kind_of s.place.op) s.place.op → (role_of (kind_of s.place.op) ≡ role.Plain Launch → ⊥)
    → Stands program given s p env rest ts → TypedOps program given (tree_before p rest) env ts

-- ---- launches

-- A launch of a task, before these: the function is there, takes what is passed to it and gives what the values hold; what it
-- captures is visible, with the types that it has among the values of the function round it.
pub record IsLaunched (program : Module) (given : List Ty) (s : Spot) (values : Typed) (name captured : List ℕ) (env : Env) (rest : Ops) (ts : List Ty) : Type 0 where
  pub shown : AreShown s.seen env (operands_of s.place.op)
  pub captures : HasTypes env (as_values captured) (types_in (typed_in values captured))
  pub are_types : AreTypes (types_in (typed_in values captured))
  pub func : Func
  pub names : Names program.funcs (Callee name) func
  pub task : is_task (ops_of func.body) ≡ true
  pub params : types_in func.params ≡ (tokens (dependency_count (groups_of s.place.op)) ++ written_of s.place.op) ++ types_in (typed_in values captured)
  pub results : func.results ≡ results_of_task s.place.op
  pub behind : TypedOps program given rest (with_typed (typed (results_of s.place.op) (types_of s.place.op)) env) ts

-- is typed with these
abbrev pub LaunchesTyped : Type 0
LaunchesTyped =
    (program : Module) (given : List Ty) (s : Spot) (values : Typed) (name captured : List ℕ) (env : Env) (rest : Ops) (ts : List Ty)
    → IsFine s → HasForm (kind_of s.place.op) s.place.op → role_of (kind_of s.place.op) ≡ role.Plain Launch
    → IsLaunched program given s values name captured env rest ts → TypedOps program given (tree_before (launch (out-Op s.place.op) name captured) rest) env ts
