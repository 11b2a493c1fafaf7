-- From sound modules to code with coroutines.
use Rattle.std.specs.Prelude.{◌≡◌, ◌≤◌, ◌^◌, ℕ, length, Some, slice_get}
use Rattle.op_table.specs.declared.rows.Level.{Level}
use Rattle.ir_forms.specs.declared.ops.Func.{Func}
use Rattle.ir_forms.specs.declared.ops.Module.{Module}
use Rattle.ir_verify.specs.Verdict.{IsSound}
use Rattle.low_forms.specs.WellFormed.{WellFormed}
use Rattle.mlir_print.specs.Printable.{IsPrintable}
use Rattle.scf_blocks.specs.Lowered.{lowered, lowered_func}
use Rattle.coro_lower.specs.Shape.{runtime_code}
use Rattle.typed_rows.specs.Typed.{AreTyped}
use Rattle.exec_outline.specs.Shape.{outlined}
use Rattle.outline_laws.specs.Laws.{tasks_of}

-- a module that breaks no rule and is the meaning of its text, with so few tasks that each has a name of its own
pub record IsSoundText (level : Level) (program : Module) : Type 0 where
  pub sound : IsSound program.funcs
  pub printable : IsPrintable level program
  pub few_tasks : length (tasks_of program) ≤ 2 ^ 64

abbrev pub OutlinedTyped : Type 0
OutlinedTyped = (level : Level) (program : Module) → IsSoundText level program → AreTyped (outlined program)

-- each block of a function has a number
abbrev pub HaveFewBlocks : Module → Type 0
HaveFewBlocks program = (k : ℕ) (f : Func) → slice_get program.funcs k ≡ Some f → length (lowered_func program.funcs f).blocks ≤ 2 ^ 32

abbrev pub AcceptedCodeWellFormed : Type 0
AcceptedCodeWellFormed = (level : Level) (program : Module) → IsSoundText level program → HaveFewBlocks (outlined program) → WellFormed (runtime_code (lowered (outlined program)))
