-- A module with functions behind its own.
use Rattle.std.specs.Prelude.{◌≡◌, ◌<◌, ℕ, ◌+◌, Bool, false, List, ◌++◌, length, Some, slice_get}
use Rattle.ir_forms.specs.declared.ops.Func.{Func}
use Rattle.ir_verify.specs.declared.fault.VerifyKind.{VerifyKind}
use Rattle.ir_verify.specs.Calls.{IsTaskCalled}
use Rattle.ir_verify.specs.Verdict.{IsSound, Tells, body_places, func_breaks}
use Rattle.sound_laws.specs.Extended.{AreFine}

-- a function's body that breaks nothing among a module's functions breaks nothing where others stand behind these
abbrev pub AppendedStaysFine : Type 0
AppendedStaysFine = (funcs more : List Func) (f : Func) (is_called : Bool) → AreFine (body_places funcs f is_called) → AreFine (body_places (funcs ++ more) f is_called)

-- the function at this place breaks no rule
pub record Stands (funcs : List Func) (k : ℕ) (f : Func) : Type 0 where
  pub body : (is_called : Bool) → Tells funcs k is_called → AreFine (body_places funcs f is_called)
  pub head : (kind : VerifyKind) → func_breaks kind funcs k f ≡ false

-- tasks call none of the first functions that they didn't call before
abbrev pub CallsNoMore : List Func → List Func → Type 0
CallsNoMore funcs more = (k : ℕ) → k < length funcs → IsTaskCalled (funcs ++ more) k → IsTaskCalled funcs k

-- a sound module stays sound where the functions behind it break no rule, and tasks call none of its own by them
abbrev pub AppendedIsSound : Type 0
AppendedIsSound =
    (funcs more : List Func) → IsSound funcs → CallsNoMore funcs more → ((j : ℕ) (g : Func) → slice_get more j ≡ Some g → Stands (funcs ++ more) (length funcs + j) g) → IsSound (funcs ++ more)
