-- What holds of modules that break no rule.
use Rattle.std.specs.Prelude.{◌≡◌, ◌≤◌, ℕ, Bool, true, false, List, Some, IsTrue, slice_get}
use Rattle.op_table.specs.declared.kind.OpKind.{OpKind}
use Rattle.op_table.specs.declared.rows.Level.{Level}
use Rattle.op_table.specs.declared.rows.Level.TheVariants.{Split}
use Rattle.op_table.specs.Rows.{place_of, stands_at}
use Rattle.ir_forms.specs.declared.ops.Func.{Func}
use Rattle.ir_forms.specs.declared.ops.ValueNo.{ValueNo}
use Rattle.ir_forms.specs.declared.types.Ty.{Ty}
use Rattle.ir_forms.specs.Ops.{kind_of, operands_of}
use Rattle.ir_verify.specs.declared.fault.VerifyKind.{VerifyKind}
use Rattle.ir_verify.specs.Breaks.{breaks}
use Rattle.ir_verify.specs.Forms.{form}
use Rattle.ir_verify.specs.Levels.{kinds_of, level_of}
use Rattle.ir_verify.specs.Places.{Spot}
use Rattle.ir_verify.specs.Rules.{operand_fits}
use Rattle.ir_verify.specs.Scopes.{lookup}
use Rattle.ir_verify.specs.Verdict.{IsSound, Tells, body_places}

-- a place of the body of the function at a place, where the flag says whether a task calls it
pub record Stands (funcs : List Func) (s : Spot) : Type 0 where
  pub k : ℕ
  pub f : Func
  pub is_called : Bool
  pub at : slice_get funcs k ≡ Some f
  pub tells : Tells funcs k is_called
  pub i : ℕ
  pub stands : slice_get (body_places funcs f is_called) i ≡ Some s

abbrev pub BreaksNothing : Type 0
BreaksNothing = (funcs : List Func) → IsSound funcs → (s : Spot) → Stands funcs s → (kind : VerifyKind) → breaks kind s ≡ false

-- the operand at a place is visible, with a type that fits
pub record Fits (s : Spot) (i : ℕ) (v : ValueNo) : Type 0 where
  pub type : Ty
  pub visible : lookup s.seen v.0 ≡ Some type
  pub fits : operand_fits (form s.place.op) s.place i type ≡ true

abbrev pub OperandsFit : Type 0
OperandsFit = (funcs : List Func) → IsSound funcs → (s : Spot) → Stands funcs s → (i : ℕ) (v : ValueNo) → slice_get (operands_of s.place.op) i ≡ Some v → Fits s i v

-- ---- levels

-- an operation of a function's body, in nested regions too, has this kind
pub record HasKind (funcs : List Func) (k : OpKind) : Type 0 where
  pub at : ℕ
  pub is : slice_get (kinds_of funcs) at ≡ Some k

-- every operation stands at the module's level
abbrev pub OperationsStand : Type 0
OperationsStand = (funcs : List Func) (s : Spot) → Stands funcs s → IsTrue (stands_at (kind_of s.place.op) (level_of funcs))

-- all kinds stand at the module's level, and no earlier level has them all
abbrev pub LevelIsLeast : Type 0
LevelIsLeast = (funcs : List Func) →
    ((k : OpKind) → HasKind funcs k → IsTrue (stands_at k (level_of funcs))) × ((l : Level) → ((k : OpKind) → HasKind funcs k → IsTrue (stands_at k l)) → place_of (level_of funcs) ≤ place_of l)

-- the level of a module that breaks no rule is one of Source, Checked and Split
abbrev pub LevelIsStructured : Type 0
LevelIsStructured = (funcs : List Func) → IsSound funcs → place_of (level_of funcs) ≤ place_of Split
