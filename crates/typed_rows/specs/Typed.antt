-- Trees of operations whose types fit.
use Rattle.std.specs.Prelude.{◌≡◌, ◌<◌, ◌≤◌, ◌^◌, ◌||◌, ℕ, not, Bool, true, false, List, [], ◌∷◌, ◌++◌, length, Option, Some, None, slice_get}
use Rattle.ir_forms.specs.declared.ops.Attr.{Attr}
use Rattle.ir_forms.specs.declared.ops.Attr.TheVariants.{Callee}
use Rattle.ir_forms.specs.declared.ops.Func.{Func}
use Rattle.ir_forms.specs.declared.ops.Module.{Module}
use Rattle.ir_forms.specs.declared.ops.ValueNo.{ValueNo}
use Rattle.ir_forms.specs.declared.types.Ty.{Ty}
use Rattle.ir_forms.specs.declared.types.Ty.TheVariants.{Index}
use Rattle.ir_forms.specs.Ops.{ops_of}
use Rattle.ir_verify.specs.Names.{first_named}
use Rattle.ir_verify.specs.Scopes.{lookup}
use Rattle.ir_verify.specs.Types.{same_type, holds, is_value, is_group, is_awaitable}
use Rattle.low_forms.specs.declared.code.LowKind.{LowKind}
use Rattle.low_forms.specs.declared.code.LowAttr.{LowAttr}
use Rattle.low_forms.specs.declared.code.Instr.{Instr}
use Rattle.low_forms.specs.declared.code.LowFunc.{LowFunc}
use Rattle.low_forms.specs.declared.code.LowModule.{LowModule}
use Rattle.low_forms.specs.Registers.{every}
use Rattle.low_forms.specs.Fits.{inner_fits}
use Rattle.scf_blocks.specs.Tree.{Var, types_in, typed, Ops, gives, decides, plain, asserts, branches, counts, cycles, calls, tries, awaits}
use Rattle.scf_blocks.specs.Code.{regs_from, instr, low_attr, truth}
use Rattle.scf_blocks.specs.Lowered.{is_task, func_tree, lowered}

-- ---- values and their types

-- the values that are visible, each with its type, the last one first
abbrev pub Env : Type 0
Env = List Var

abbrev pub with_typed : List Var → Env → Env
with_typed [] env = env
with_typed (x ∷ xs) env = with_typed xs (x ∷ env)

-- the values are visible and have these types
abbrev pub HasTypes : Env → List ValueNo → List Ty → Type 0
HasTypes env [] [] = Unit {0}
HasTypes env [] (t ∷ ts) = ⊥
HasTypes env (x ∷ xs) [] = ⊥
HasTypes env (x ∷ xs) (t ∷ ts) = (lookup env x.0 ≡ Some t) × HasTypes env xs ts

-- there is an operand, and it has this type
abbrev pub HasType : Env → Option ValueNo → Ty → Type 0
HasType env None t = ⊥
HasType env (Some x) t = lookup env x.0 ≡ Some t

-- a type of the grammar; none is the same as what has no type
abbrev pub is_type : Ty → Bool
is_type t = same_type t t

abbrev pub AreTypes : List Ty → Type 0
AreTypes ts = every is_type ts ≡ true

-- ---- rows

-- A function in which an instruction has its operands and its results, of these types, in registers of their own.
abbrev pub lone_func : (given operands results : List Ty) → LowFunc
lone_func given ts us = record { name = []; coroutine = false; params = []; results = given; regs = ts ++ us; blocks = [] }

abbrev pub lone_instr : LowKind → LowAttr → (operands results : List Ty) → Instr
lone_instr kind a ts us = instr kind (regs_from 0 ts) (regs_from (length ts) us) a

-- an instruction with operands and results of these types fits its row
abbrev pub row_fits : LowModule → (given : List Ty) → LowKind → LowAttr → (operands results : List Ty) → Bool
row_fits code given kind a ts us = inner_fits code (lone_func given ts us) (lone_instr kind a ts us)

-- what an awaited object of this type gives: one value, or none
abbrev pub gives_held : Ty → List Ty → Bool
gives_held t [] = not (is_value t)
gives_held t (u ∷ []) = holds t u
gives_held t (u ∷ v ∷ us) = false

-- the function that an operation names
pub record Names (funcs : List Func) (a : Attr) (g : Func) : Type 0 where
  pub name : List ℕ
  pub place : ℕ
  pub carries : a ≡ Callee name
  pub first : first_named funcs name ≡ Some place
  pub at : slice_get funcs place ≡ Some g

-- it is called plainly, with values of these types
pub record IsCalled (funcs : List Func) (a : Attr) (takes results : List Ty) : Type 0 where
  pub func : Func
  pub names : Names funcs a func
  pub plainly : is_task (ops_of func.body) ≡ false
  pub params : types_in func.params ≡ takes
  pub gives : func.results ≡ results
  pub are_taken : AreTypes takes
  pub are_given : AreTypes results

-- the number of an operation that can fail is the code of its failure, which has 64 bits
abbrev pub IsCode : ℕ → Type 0
IsCode at = at < 2 ^ 64

-- ---- trees

-- in a function of this program that gives values of these types
module _ (program : Module) (given : List Ty) where
  -- the operations use visible values, of types that fit, and end with values of these types
  abbrev pub TypedOps : Ops → Env → List Ty → Type 0
  TypedOps (gives vs) env ts = HasTypes env vs ts
  TypedOps (decides c vs) env ts = HasType env c truth × HasTypes env vs ts
  TypedOps (plain kind a args rs rest) env ts =
      ((us : List Ty) × HasTypes env args us × (row_fits (lowered program) given kind (low_attr program.funcs a) us (types_in rs) ≡ true)) × TypedOps rest (with_typed rs env) ts
  TypedOps (asserts at c rest) env ts = HasType env c truth × IsCode at × TypedOps rest env ts
  TypedOps (branches c on off rs rest) env ts =
      HasType env c truth × AreTypes (types_in rs) × TypedOps on env (types_in rs) × TypedOps off env (types_in rs) × TypedOps rest (with_typed rs env) ts
  TypedOps (counts lower upper step inits params body rs rest) env ts =
      (HasType env lower Index × HasType env upper Index × HasType env step Index)
      × ((us : List Ty) × (types_in params ≡ Index ∷ us) × AreTypes us × HasTypes env inits us × (length rs ≤ length us)
      × TypedOps body (with_typed params env) us × TypedOps rest (with_typed (typed rs us) env) ts)
  TypedOps (cycles inits params before passed after rs rest) env ts =
      (HasTypes env inits (types_in params) × AreTypes (types_in params) × AreTypes (types_in passed) × (types_in rs ≡ types_in passed))
      × TypedOps before (with_typed params env) (types_in passed) × TypedOps after (with_typed passed env) (types_in params) × TypedOps rest (with_typed rs env) ts
  TypedOps (calls a args rs rest) env ts = ((us : List Ty) × HasTypes env args us × IsCalled program.funcs a us (types_in rs)) × TypedOps rest (with_typed rs env) ts
  TypedOps (tries a args rs rest) env ts =
      ((us : List Ty) × HasTypes env args us × IsCalled program.funcs a us []) × (types_in rs ≡ truth ∷ []) × TypedOps rest (with_typed rs env) ts
  TypedOps (awaits at o rs rest) env ts =
      ((t : Ty) × HasType env o t × ((is_awaitable t || is_group t) ≡ true) × (gives_held t (types_in rs) ≡ true)) × IsCode at × TypedOps rest (with_typed rs env) ts

-- a function whose operations are so, and give what the function gives
pub record IsTyped (program : Module) (f : Func) : Type 0 where
  pub ops : TypedOps program f.results (func_tree f) (with_typed f.params []) f.results
  pub results : AreTypes f.results

abbrev pub AreTyped : Module → Type 0
AreTyped program = (k : ℕ) (f : Func) → slice_get program.funcs k ≡ Some f → IsTyped program f
