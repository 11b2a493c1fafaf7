-- Operations that are suited to be laid out: what they use is visible, what they define is new, and types are as written.
use Rattle.std.specs.Prelude.{◌≡◌, ◌≤◌, ◌<◌, ◌^◌, ℕ, ◌+◌, nat_eq, cond, Bool, true, false, List, [], ◌∷◌, length, Option, Some, None, IsSome, slice_get}
use Rattle.op_table.specs.declared.kind.OpKind.{OpKind}
use Rattle.op_table.specs.declared.kind.OpKind.TheVariants as op
use Rattle.ir_forms.specs.declared.ops.Func.{Func}
use Rattle.ir_forms.specs.declared.ops.Op.{Op, out-Op}
use Rattle.ir_forms.specs.declared.ops.ValueNo.{ValueNo}
use Rattle.ir_forms.specs.declared.types.Ty.{Ty}
use Rattle.ir_verify.specs.Calls.{callee_place}
use Rattle.source_meaning.specs.Parts.{Node, region_of, ops_in, width_of, dims_of}
use Rattle.task_stack.specs.declared.effects.Number as one
use Rattle.scf_blocks.specs.declared.role.Role.TheVariants as role
use Rattle.scf_blocks.specs.Tree.{Var, types_in, role_of, typed, params_at}
use Rattle.block_carry.specs.Rows.{Computes, ReadsWidth, Asks, alloc, dealloc, load, store, create_group, add_to_group}
use Rattle.block_carry.specs.Laid.{Ends}

-- ---- values that are visible, with their types, the last one first

abbrev pub type_in : List Var → ℕ → Option Ty
type_in [] x = None
type_in (v ∷ vars) x = cond (nat_eq v.0.0 x) (Some v.1) (type_in vars x)

abbrev pub with_known : List Var → List Var → List Var
with_known [] vars = vars
with_known (x ∷ xs) vars = with_known xs (x ∷ vars)

-- each of these is visible
abbrev pub AreSeen : List Var → List ValueNo → Type 0
AreSeen vars [] = Unit {0}
AreSeen vars (x ∷ xs) = IsSome (type_in vars x.0) × AreSeen vars xs

-- each of these is defined for the first time
abbrev pub AreFresh : List Var → List Var → Type 0
AreFresh vars [] = Unit {0}
AreFresh vars (x ∷ xs) = (type_in vars x.0.0 ≡ None) × AreFresh (x ∷ vars) xs

-- the type of the first operand
abbrev pub first_type : List Var → List ValueNo → Option Ty
first_type vars [] = None
first_type vars (x ∷ xs) = type_in vars x.0

abbrev pub results_in : Node → List Var
results_in o = typed o.results o.types

-- ---- operations

-- an operation's results have types, of which there are as many, and are new
pub record Gives (vars : List Var) (o : Node) : Type 0 where
  pub many : length o.types ≡ length o.results
  pub fresh : AreFresh vars (results_in o)

-- what it has besides where it asks the shared state by one instruction; whether the result of an add is used is a fact of the
-- whole function, so adds to groups are not among these
abbrev pub AsksWell : {k l : OpKind} → Asks k l → Node → Type 0
AsksWell alloc o = (length (dims_of (slice_get o.types 0)) ≤ 4) × (length o.results ≤ 1)
AsksWell dealloc o = o.results ≡ []
AsksWell load o = length o.results ≤ 1
AsksWell store o = o.results ≡ []
AsksWell create_group o = length o.results ≤ 1
AsksWell add_to_group o = ⊥

-- the parameters of one of its regions
abbrev pub region_params : Node → ℕ → List Var
region_params o k = params_at o.regions k

-- A counted loop takes an index and what it carries, of the types of its results; it begins with as many values.
pub record Counts (vars : List Var) (o : Node) (inits : List ValueNo) : Type 0 where
  pub variable : Var
  pub carried : List Var
  pub params : region_params o 0 ≡ variable ∷ carried
  pub wide : width_of (Some variable.1) ≡ 64
  pub begins : length inits ≡ length carried
  pub types : types_in (results_in o) ≡ types_in carried
  pub fresh : AreFresh vars (variable ∷ carried)

-- A loop with a test begins with as many values as its first region takes, and gives as many as its second takes.
pub record Cycles (vars : List Var) (o : Node) : Type 0 where
  pub begins : length o.operands ≡ length (region_params o 0)
  pub ends : length o.results ≡ length (region_params o 1)
  pub first : AreFresh vars (region_params o 0)
  pub second : AreFresh vars (region_params o 1)

-- The function that a call names, at the same place in both lists of functions; it takes as many values as the call gives.
pub record IsCalled (from to : List Func) (o : Node) (g : ℕ) (callee : Func) : Type 0 where
  pub place : callee_place from o.attr ≡ Some g
  pub again : callee_place to o.attr ≡ Some g
  pub func : slice_get from g ≡ Some callee
  pub many : length o.operands ≡ length callee.params

-- The operations of a region, where these values are visible: the region ends with a values, and with a test of a loop where it
-- decides. The operations are those of a function of the first list, laid out where the second list names functions.
pub data IsSuited (from to : List Func) : (tests : Bool) → ℕ → List Var → List Op → Type 0 where
  gives : (a : ℕ) (vars : List Var) (o : Op) (rest : List Op) → Ends (out-Op o).kind → role_of (out-Op o).kind ≡ role.End → length (out-Op o).operands ≡ a → AreSeen vars (out-Op o).operands →
      IsSuited from to false a vars (o ∷ rest)
  decides : (a : ℕ) (vars : List Var) (o : Op) (rest : List Op) (c : ValueNo) (vs : List ValueNo) → (out-Op o).kind ≡ op.ScfCondition → (out-Op o).operands ≡ c ∷ vs → length (out-Op o).operands ≡ a →
      AreSeen vars (out-Op o).operands → IsSuited from to true a vars (o ∷ rest)
  gives_nothing : (a : ℕ) (vars : List Var) → 0 ≡ a → IsSuited from to false a vars []
  computes : (d : Bool) (a : ℕ) (vars : List Var) (o : Op) (rest : List Op) (m : one.Number) → Computes (out-Op o).kind m → length (out-Op o).results ≤ 1 → Gives vars (out-Op o) →
      (ReadsWidth m → width_of (first_type vars (out-Op o).operands) ≡ width_of (slice_get (out-Op o).written 0)) → AreSeen vars (out-Op o).operands →
      IsSuited from to d a (with_known (results_in (out-Op o)) vars) rest → IsSuited from to d a vars (o ∷ rest)
  asserts : (d : Bool) (a : ℕ) (vars : List Var) (o : Op) (rest : List Op) (c : ValueNo) (cs : List ValueNo) → (out-Op o).kind ≡ op.CfAssert → (out-Op o).operands ≡ c ∷ cs → AreSeen vars (c ∷ []) →
      (out-Op o).at < 2 ^ 32 → IsSuited from to d a vars rest → IsSuited from to d a vars (o ∷ rest)
  branches : (d : Bool) (a : ℕ) (vars : List Var) (o : Op) (rest : List Op) (c : ValueNo) (cs : List ValueNo) → (out-Op o).kind ≡ op.ScfIf → (out-Op o).operands ≡ c ∷ cs → AreSeen vars (c ∷ []) → Gives vars (out-Op o) →
      IsSuited from to false (length (out-Op o).results) vars (ops_in (region_of (out-Op o) 0)) → IsSuited from to false (length (out-Op o).results) vars (ops_in (region_of (out-Op o) 1)) →
      IsSuited from to d a (with_known (results_in (out-Op o)) vars) rest → IsSuited from to d a vars (o ∷ rest)
  awaits : (d : Bool) (a : ℕ) (vars : List Var) (o : Op) (rest : List Op) (c : ValueNo) (cs : List ValueNo) → (out-Op o).kind ≡ op.AsyncAwait → (out-Op o).operands ≡ c ∷ cs → AreSeen vars (c ∷ []) → Gives vars (out-Op o) →
      (out-Op o).at < 2 ^ 32 → IsSuited from to d a (with_known (results_in (out-Op o)) vars) rest → IsSuited from to d a vars (o ∷ rest)
  awaits_all : (d : Bool) (a : ℕ) (vars : List Var) (o : Op) (rest : List Op) (c : ValueNo) (cs : List ValueNo) → (out-Op o).kind ≡ op.AsyncAwaitAll → (out-Op o).operands ≡ c ∷ cs → AreSeen vars (c ∷ []) →
      (out-Op o).results ≡ [] → (out-Op o).at < 2 ^ 32 → IsSuited from to d a vars rest → IsSuited from to d a vars (o ∷ rest)
  asks : (d : Bool) (a : ℕ) (vars : List Var) (o : Op) (rest : List Op) (l : OpKind) (k : Asks (out-Op o).kind l) → AsksWell k (out-Op o) → Gives vars (out-Op o) → AreSeen vars (out-Op o).operands →
      IsSuited from to d a (with_known (results_in (out-Op o)) vars) rest → IsSuited from to d a vars (o ∷ rest)
  counts : (d : Bool) (a : ℕ) (vars : List Var) (o : Op) (rest : List Op) (lower upper step : ValueNo) (inits : List ValueNo) → (out-Op o).kind ≡ op.ScfFor → (out-Op o).operands ≡ lower ∷ upper ∷ step ∷ inits →
      AreSeen vars (lower ∷ upper ∷ step ∷ inits) → (c : Counts vars (out-Op o) inits) → Gives vars (out-Op o) →
      IsSuited from to false (length c.carried) (with_known (c.variable ∷ c.carried) vars) (ops_in (region_of (out-Op o) 0)) →
      IsSuited from to d a (with_known (results_in (out-Op o)) vars) rest → IsSuited from to d a vars (o ∷ rest)
  cycles : (d : Bool) (a : ℕ) (vars : List Var) (o : Op) (rest : List Op) → (out-Op o).kind ≡ op.ScfWhile → AreSeen vars (out-Op o).operands → Cycles vars (out-Op o) → Gives vars (out-Op o) →
      IsSuited from to true (1 + length (region_params (out-Op o) 1)) (with_known (region_params (out-Op o) 0) vars) (ops_in (region_of (out-Op o) 0)) →
      IsSuited from to false (length (region_params (out-Op o) 0)) (with_known (region_params (out-Op o) 1) vars) (ops_in (region_of (out-Op o) 1)) →
      IsSuited from to d a (with_known (results_in (out-Op o)) vars) rest → IsSuited from to d a vars (o ∷ rest)
  calls : (d : Bool) (a : ℕ) (vars : List Var) (o : Op) (rest : List Op) (g : ℕ) (callee : Func) → (out-Op o).kind ≡ op.FuncCall → IsCalled from to (out-Op o) g callee → length (out-Op o).results ≡ length callee.results →
      AreSeen vars (out-Op o).operands → Gives vars (out-Op o) → IsSuited from to d a (with_known (results_in (out-Op o)) vars) rest → IsSuited from to d a vars (o ∷ rest)
  tries : (d : Bool) (a : ℕ) (vars : List Var) (o : Op) (rest : List Op) (g : ℕ) (callee : Func) → (out-Op o).kind ≡ op.AioTryCall → IsCalled from to (out-Op o) g callee → length callee.results ≡ 0 → length (out-Op o).results ≤ 1 →
      AreSeen vars (out-Op o).operands → Gives vars (out-Op o) → IsSuited from to d a (with_known (results_in (out-Op o)) vars) rest → IsSuited from to d a vars (o ∷ rest)
