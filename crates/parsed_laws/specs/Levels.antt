-- The level of what is read.
use Rattle.std.specs.Prelude.{◌≤◌, ℕ, List}
use Rattle.op_table.specs.declared.rows.Level.{Level}
use Rattle.op_table.specs.Rows.{place_of}
use Rattle.ir_forms.specs.declared.ops.Module.{Module}
use Rattle.ir_verify.specs.Levels.{level_of}
use Rattle.module_grammar.specs.declared.faults.TextLimits.{TextLimits}
use Rattle.parsed_laws.specs.Texts.{IsAccepted}

-- a program that is accepted is of the level of its text, or of an earlier one
abbrev pub AcceptsAtLevel : Type 0
AcceptsAtLevel = (limits : TextLimits) (level : Level) (text : List ℕ) (program : Module) → IsAccepted limits level text program → place_of (level_of program.funcs) ≤ place_of level
