-- What is read has the form that the laws of the passes ask for.
use Rattle.std.specs.Prelude.{◌≡◌, ◌<◌, ◌-◌, ◌^◌, ℕ, List}
use Rattle.op_table.specs.declared.rows.Level.{Level}
use Rattle.ir_forms.specs.declared.ops.Module.{Module}
use Rattle.ir_forms.specs.Numbers.{renumbered}
use Rattle.ir_verify.specs.Verdict.{IsSound}
use Rattle.module_grammar.specs.declared.faults.TextLimits.{TextLimits}
use Rattle.mlir_print.specs.Printable.{IsPrintable}
use Rattle.mlir_text.specs.Texts.{IsTextOf}
use Rattle.source_meaning.specs.TaskOrder.{Each}
use Rattle.checked_values.specs.Laws.{IsInOrder}
use Rattle.check_laws.specs.Laws.{IsWellFormed}

-- The bytes are a text of the level, within limits of fewer values than there are numbers, that stands for the module.
pub record IsRead (limits : TextLimits) (level : Level) (text : List ℕ) (m : Module) : Type 0 where
  pub few : limits.values < 2 ^ 32 - 1
  pub is : IsTextOf limits level text m

-- each function's values are 0, 1, 2 and so on in the order of the text, its parameters first
abbrev pub ReadsInOrder : Type 0
ReadsInOrder = (limits : TextLimits) (level : Level) (text : List ℕ) (m : Module) → IsRead limits level text m → Each IsInOrder m.funcs

-- a module that is read and breaks no rule is well formed
abbrev pub ReadsWellFormed : Type 0
ReadsWellFormed = (limits : TextLimits) (level : Level) (text : List ℕ) (m : Module) → IsRead limits level text m → IsSound m.funcs → IsWellFormed m.funcs

-- and it is the meaning of its printed text
abbrev pub SoundIsPrintable : Type 0
SoundIsPrintable = (limits : TextLimits) (level : Level) (text : List ℕ) (m : Module) → IsRead limits level text m → IsSound m.funcs → IsPrintable level m

-- the program is a module that is read, with its operations numbered by their places, and breaks no rule
pub record IsAccepted (limits : TextLimits) (level : Level) (text : List ℕ) (program : Module) : Type 0 where
  pub m : Module
  pub read : IsRead limits level text m
  pub numbered : program ≡ renumbered m
  pub sound : IsSound program.funcs

-- such a program is well formed
abbrev pub AcceptsWellFormed : Type 0
AcceptsWellFormed = (limits : TextLimits) (level : Level) (text : List ℕ) (program : Module) → IsAccepted limits level text program → IsWellFormed program.funcs
