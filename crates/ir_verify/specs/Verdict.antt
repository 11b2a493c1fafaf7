-- The verdict on a module: its earliest fault.
use Rattle.std.specs.Prelude.{◌≡◌, ℕ, ◌+◌, ◌==◌, ◌||◌, not, Bool, true, false, List, [], ◌∷◌, Option, Some, None, slice_get}
use Rattle.ir_forms.specs.declared.ops.Func.{Func}
use Rattle.ir_forms.specs.declared.ops.ValueNo.{ValueNo}
use Rattle.ir_forms.specs.declared.types.Ty.{Ty}
use Rattle.ir_forms.specs.Ops.{ops_of}
use Rattle.ir_verify.specs.declared.fault.Broken.{Broken}
use Rattle.ir_verify.specs.declared.fault.VerifyKind.{VerifyKind}
use Rattle.ir_verify.specs.declared.fault.VerifyKind.TheVariants.{Undefined, Terminator, AsyncInMemref}
use Rattle.op_table.specs.declared.form.Form.TheVariants.{Return}
use Rattle.ir_verify.specs.Breaks.{some_at, breaks, lacks_end, number_of, noted_all}
use Rattle.ir_verify.specs.Calls.{AreMarks, IsTaskCalled, graph_of, is_marked}
use Rattle.ir_verify.specs.Faults.{noted, is_before}
use Rattle.ir_verify.specs.Names.{first_named}
use Rattle.ir_verify.specs.Places.{Spot, places_in, in_body}
use Rattle.ir_verify.specs.Types.{has_async_cells}

-- ---- a function's own rules

abbrev pub is_place : Option ℕ → ℕ → Bool
is_place None k = false
is_place (Some j) k = j == k

-- a parameter's type has cells of an async type
abbrev pub param_has_async : ℕ → (ValueNo × Ty) → Bool
param_has_async i param = has_async_cells param.1

abbrev pub type_has_async : ℕ → Ty → Bool
type_has_async i t = has_async_cells t

-- the function at a place breaks a rule: an earlier one has its name, its body doesn't end in its return, or a type of
-- its head has cells of an async type
abbrev pub func_breaks : VerifyKind → List Func → ℕ → Func → Bool
func_breaks Undefined funcs k f = not (is_place (first_named funcs f.name) k)
func_breaks Terminator funcs k f = lacks_end Return (ops_of f.body)
func_breaks AsyncInMemref funcs k f = some_at param_has_async f.params || some_at type_has_async f.results
func_breaks _ funcs k f = false

abbrev pub noted_head : VerifyKind → List Func → ℕ → Func → Option Broken → Option Broken
noted_head kind funcs k f best = noted best (func_breaks kind funcs k f) (record { op = f.at; kind = kind })

abbrev pub noted_func : List Func → ℕ → Func → Option Broken → Option Broken
noted_func funcs k f best = noted_head AsyncInMemref funcs k f (noted_head Terminator funcs k f (noted_head Undefined funcs k f best))

-- the places of a function's body
abbrev pub body_places : List Func → Func → Bool → List Spot
body_places funcs f is_called = places_in funcs f.body (in_body f is_called) f.params

-- the earliest fault of the functions from the place k on, with those before counted
abbrev pub noted_funcs : List Func → List Bool → ℕ → List Func → Option Broken → Option Broken
noted_funcs funcs marks k [] best = best
noted_funcs funcs marks k (f ∷ rest) best =
    noted_funcs funcs marks (k + 1) rest (noted_all (body_places funcs f (is_marked (slice_get marks k))) (noted_func funcs k f best))

-- the earliest fault, for the marks of the functions that tasks call
pub record IsNoted (funcs : List Func) (best : Option Broken) : Type 0 where
  pub marks : List Bool
  pub exact : AreMarks (graph_of funcs) marks
  pub is : best ≡ noted_funcs funcs marks 0 funcs None

-- ---- what is broken

-- whether a task calls the function at this place
pub record Tells (funcs : List Func) (k : ℕ) (is_called : Bool) : Type 0 where
  pub sound : is_called ≡ true → IsTaskCalled funcs k
  pub complete : IsTaskCalled funcs k → is_called ≡ true

-- The operation with this number breaks the rule of this kind: it is a function, or it stands in a function's body.
pub data Breaks (funcs : List Func) : Broken → Type 0 where
  at_function : (k : ℕ) (f : Func) (kind : VerifyKind) → slice_get funcs k ≡ Some f → func_breaks kind funcs k f ≡ true → Breaks funcs (record { op = f.at; kind = kind })
  at_operation : (k : ℕ) (f : Func) (is_called : Bool) (i : ℕ) (s : Spot) (kind : VerifyKind) → slice_get funcs k ≡ Some f → Tells funcs k is_called →
      slice_get (body_places funcs f is_called) i ≡ Some s → breaks kind s ≡ true → Breaks funcs (record { op = number_of s.place.op; kind = kind })

-- no rule is broken
abbrev pub IsSound : List Func → Type 0
IsSound funcs = (b : Broken) → Breaks funcs b → ⊥

-- this rule is broken, and none at a lesser number, nor an earlier kind at this number
pub record IsFirst (funcs : List Func) (b : Broken) : Type 0 where
  pub broken : Breaks funcs b
  pub none_before : (c : Broken) → Breaks funcs c → is_before c b ≡ false

abbrev pub IsVerdict : List Func → Option Broken → Type 0
IsVerdict funcs None = IsSound funcs
IsVerdict funcs (Some b) = IsFirst funcs b
