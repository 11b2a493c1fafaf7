-- The passes one behind another: code that carries the module with its checks, and lowered code that carries this code.
use Rattle.std.specs.Prelude.{ℕ, List}
use Rattle.ir_forms.specs.declared.args.ArgValue.{ArgValue}
use Rattle.ir_forms.specs.declared.names.TraceEntry.{TraceEntry}
use Rattle.ir_forms.specs.declared.ops.Module.{Module}
use Rattle.ir_forms.specs.declared.runs.FuncNo.{FuncNo}
use Rattle.low_forms.specs.declared.code.LowFunc.{LowFunc}
use Rattle.low_forms.specs.declared.code.LowModule.{LowModule}
use Rattle.check_insert.specs.Shape.{checked}
use Rattle.check_laws.specs.Laws.{IsWellFormed, AreArguments}
use Rattle.checked_machines.specs.Strict.{strict_source}
use Rattle.code_machines.specs.HighCode.{high}
use Rattle.code_machines.specs.Named.{named_high, numbered_lowered, named_lowered}
use Rattle.machines.specs.Carries as carry
use Rattle.machines.specs.Carries.{Keeps, Carries, NeverShort}
use Rattle.source_machine.specs.Source.{source}
use Rattle.source_meaning.specs.declared.ends.SourceEnd.{SourceEnd}
use Rattle.source_meaning.specs.Tasks.{Program}
use Rattle.source_meaning.specs.Sequential.{IsProgram}
use Rattle.source_meaning.specs.TaskOrder as order
use Rattle.value_numbers.specs.Numbers.{value_numbered}

-- a module, code with the high rows that carries it with its checks, and lowered code that carries that code
pub record IsLowered (program : Module) (p : Program) (entry : ℕ) (args : List ArgValue) (code : LowModule) (n : FuncNo) (f : LowFunc) : Type 0 where
  pub formed : IsWellFormed program.funcs
  pub of : IsProgram program p
  pub fit : AreArguments program.funcs entry args
  pub q : Program
  pub of_checked : IsProgram (value_numbered (checked program)) q
  pub above : LowModule
  pub m : FuncNo
  pub g : LowFunc
  pub blocks : Carries (named_high above m g args) (strict_source q entry args)
  pub coroutines : Carries (numbered_lowered code n f args) (high above m g args)

-- the lowered code is never stuck, shows what the module shows and ends as it does, and isn't short where it isn't
abbrev pub ComposedKeeps : Type 0
ComposedKeeps = (program : Module) (p : Program) (entry : ℕ) (args : List ArgValue) (code : LowModule) (n : FuncNo) (f : LowFunc) → IsLowered program p entry args code n f →
    Keeps (named_lowered code n f args) (source p entry args) × (NeverShort (source p entry args) → NeverShort (named_lowered code n f args))

-- each of its finished runs is, under names, a finished run of the module in some order of tasks
abbrev pub ComposedRefines : Type 0
ComposedRefines = (program : Module) (p : Program) (entry : ℕ) (args : List ArgValue) (code : LowModule) (n : FuncNo) (f : LowFunc) → IsLowered program p entry args code n f →
    (shown : List TraceEntry) (end : SourceEnd) → carry.Finishes (named_lowered code n f args) shown end → order.Finishes p entry args shown end
