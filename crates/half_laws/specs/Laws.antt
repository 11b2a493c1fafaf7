-- From structured operations to code with coroutines.
use Rattle.std.specs.Prelude.{◌≡◌, ◌≤◌, ◌^◌, ℕ, true, List, length, Some, slice_get}
use Rattle.ir_forms.specs.declared.ops.Func.{Func}
use Rattle.ir_forms.specs.declared.ops.Module.{Module}
use Rattle.ir_forms.specs.Ops.{ops_of}
use Rattle.low_forms.specs.declared.code.LowFunc.{LowFunc}
use Rattle.low_forms.specs.Registers.{every}
use Rattle.low_forms.specs.Fits.{block_fits}
use Rattle.low_forms.specs.WellFormed.{WellFormed}
use Rattle.scf_blocks.specs.Lowered.{is_task, lowered_func, lowered}
use Rattle.coro_lower.specs.Shape.{runtime_code}
use Rattle.block_laws.specs.Closed.{IsClosed}
use Rattle.coro_laws.specs.Half.{can_be_held, HalfLowered}

-- What is asked of a function beside the types of its rows: its operations use only what is visible, each of its blocks has a
-- number, and if it is a task, then values hold what it gives.
pub record IsReady (funcs : List Func) (f : Func) : Type 0 where
  pub closed : IsClosed f
  pub few : length (lowered_func funcs f).blocks ≤ 2 ^ 32
  pub held : is_task (ops_of f.body) ≡ true → every can_be_held f.results ≡ true

abbrev pub AreReady : Module → Type 0
AreReady program = (k : ℕ) (f : Func) → slice_get program.funcs k ≡ Some f → IsReady program.funcs f

-- the rows of the blocks fit
abbrev pub RowsFit : Module → Type 0
RowsFit program = (k : ℕ) (low : LowFunc) → slice_get (lowered program).funcs k ≡ Some low → every (block_fits (lowered program) low) low.blocks ≡ true

abbrev pub BlocksHalfLowered : Type 0
BlocksHalfLowered = (program : Module) → AreReady program → HalfLowered (lowered program)

-- the code with coroutines is well formed
abbrev pub LoweredWellFormed : Type 0
LoweredWellFormed = (program : Module) → AreReady program → RowsFit program → WellFormed (runtime_code (lowered program))
