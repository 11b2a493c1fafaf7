-- What the pass of checks carries.
use Rattle.std.specs.Prelude.{ℕ, List}
use Rattle.ir_forms.specs.declared.args.ArgValue.{ArgValue}
use Rattle.ir_forms.specs.declared.ops.Module.{Module}
use Rattle.agreeing_machines.specs.Laws.{CarryEachOther}
use Rattle.check_insert.specs.Shape.{checked}
use Rattle.check_laws.specs.Laws.{IsWellFormed, AreArguments}
use Rattle.machines.specs.Carries.{Carries}
use Rattle.source_machine.specs.Source.{source}
use Rattle.source_meaning.specs.Tasks.{Program}
use Rattle.source_meaning.specs.Sequential.{IsProgram}
use Rattle.value_numbers.specs.Numbers.{value_numbered}
use Rattle.checked_machines.specs.Strict.{strict_source}

-- a well formed module and what the pass makes of it carry each other, with all arguments that fit
abbrev pub PassCarries : Type 0
PassCarries = (program : Module) (p q : Program) (entry : ℕ) (args : List ArgValue) → IsWellFormed program.funcs → IsProgram program p → IsProgram (value_numbered (checked program)) q →
    AreArguments program.funcs entry args → CarryEachOther p q entry args

-- what the pass makes is never stuck before an operation without a result or without its tokens
abbrev pub StrictlyCarries : Type 0
StrictlyCarries = (program : Module) (q : Program) (entry : ℕ) (args : List ArgValue) → IsWellFormed program.funcs → IsProgram (value_numbered (checked program)) q →
    AreArguments program.funcs entry args → Carries (strict_source q entry args) (source q entry args)

-- so the machine that is stuck there carries the module
abbrev pub CheckedCarries : Type 0
CheckedCarries = (program : Module) (p q : Program) (entry : ℕ) (args : List ArgValue) → IsWellFormed program.funcs → IsProgram program p → IsProgram (value_numbered (checked program)) q →
    AreArguments program.funcs entry args → Carries (strict_source q entry args) (source p entry args)
