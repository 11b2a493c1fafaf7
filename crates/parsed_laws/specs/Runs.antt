-- What the pass of checks makes of a program that is accepted, run with arguments of a text that fit.
use Rattle.std.specs.Prelude.{ℕ, List}
use Rattle.op_table.specs.declared.rows.Level.{Level}
use Rattle.ir_forms.specs.declared.args.ArgValue.{ArgValue}
use Rattle.ir_forms.specs.declared.ops.Module.{Module}
use Rattle.module_grammar.specs.declared.faults.TextLimits.{TextLimits}
use Rattle.source_meaning.specs.Sequential.{IsProgram}
use Rattle.source_meaning.specs.Tasks.{Program, Task}
use Rattle.carry_laws.specs.Agreement.{IsTaskOf}
use Rattle.carry_laws.specs.Instances.{HaveSameRuns}
use Rattle.check_insert.specs.Shape.{checked}
use Rattle.value_numbers.specs.Numbers.{value_numbered}
use Rattle.check_laws.specs.Laws.{HasElements}
use Rattle.check_laws.specs.Silent.{IsSafe}
use Rattle.parsed_laws.specs.Arguments.{AreWritten}
use Rattle.parsed_laws.specs.Texts.{IsAccepted}

-- it has the program's runs
abbrev pub AcceptedKeepsRuns : Type 0
AcceptedKeepsRuns = (limits : TextLimits) (level : Level) (text given : List ℕ) (program : Module) (p q : Program) (entry : ℕ) (values : List ArgValue) →
    IsAccepted limits level text program → AreWritten program.funcs entry given values →
    IsProgram program p → IsProgram (value_numbered (checked program)) q → HaveSameRuns program (value_numbered (checked program)) p q entry values

-- each operation that a task begins has a result
abbrev pub AcceptedHasResults : Type 0
AcceptedHasResults = (limits : TextLimits) (level : Level) (text given : List ℕ) (program : Module) (q : Program) (entry : ℕ) (values : List ArgValue) →
    IsAccepted limits level text program → AreWritten program.funcs entry given values →
    IsProgram (value_numbered (checked program)) q → (u : Task) → IsTaskOf q entry values u → IsSafe u

-- and what it awaits, adds to a group or launches a task with are tokens and values of tasks
abbrev pub AcceptedHasElements : Type 0
AcceptedHasElements = (limits : TextLimits) (level : Level) (text given : List ℕ) (program : Module) (q : Program) (entry : ℕ) (values : List ArgValue) →
    IsAccepted limits level text program → AreWritten program.funcs entry given values →
    IsProgram (value_numbered (checked program)) q → (u : Task) → IsTaskOf q entry values u → HasElements u
