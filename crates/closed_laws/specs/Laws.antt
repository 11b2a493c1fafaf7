-- From operations whose types fit to code with coroutines.
use Rattle.std.specs.Prelude.{◌≡◌, ◌≤◌, ◌^◌, ℕ, true, List, length, Some, slice_get}
use Rattle.ir_forms.specs.declared.ops.Func.{Func}
use Rattle.ir_forms.specs.declared.ops.Module.{Module}
use Rattle.ir_forms.specs.Ops.{ops_of}
use Rattle.low_forms.specs.Registers.{every}
use Rattle.low_forms.specs.WellFormed.{WellFormed}
use Rattle.scf_blocks.specs.Lowered.{is_task, lowered_func, lowered}
use Rattle.coro_lower.specs.Shape.{runtime_code}
use Rattle.coro_laws.specs.Half.{can_be_held}
use Rattle.typed_rows.specs.Typed.{AreTyped}

-- each block of a function has a number, and if it is a task, then values hold what it gives
pub record IsSmall (funcs : List Func) (f : Func) : Type 0 where
  pub few : length (lowered_func funcs f).blocks ≤ 2 ^ 32
  pub held : is_task (ops_of f.body) ≡ true → every can_be_held f.results ≡ true

abbrev pub AreSmall : Module → Type 0
AreSmall program = (k : ℕ) (f : Func) → slice_get program.funcs k ≡ Some f → IsSmall program.funcs f

abbrev pub TypedCodeWellFormed : Type 0
TypedCodeWellFormed = (program : Module) → AreTyped program → AreSmall program → WellFormed (runtime_code (lowered program))
