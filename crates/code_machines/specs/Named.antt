-- The machines of code under the names of the source.
use Rattle.std.specs.Prelude.{List}
use Rattle.ir_forms.specs.declared.args.ArgValue.{ArgValue}
use Rattle.ir_forms.specs.declared.names.TraceEntry.{TraceEntry}
use Rattle.ir_forms.specs.declared.runs.FuncNo.{FuncNo}
use Rattle.low_forms.specs.declared.code.LowFunc.{LowFunc}
use Rattle.low_forms.specs.declared.code.LowModule.{LowModule}
use Rattle.machines.specs.Machine.{Machine}
use Rattle.machines.specs.Reading.{Read}
use Rattle.machines.specs.Carries.{Carries}
use Rattle.source_meaning.specs.declared.ends.SourceEnd.{SourceEnd}
use Rattle.code_machines.specs.Numbered.{Numbered}
use Rattle.code_machines.specs.HighCode.{high}
use Rattle.code_machines.specs.CoreCode.{lowered}
use Rattle.code_machines.specs.Objects.{objects}
use Rattle.code_machines.specs.Paths.{paths}

-- code with the high rows
abbrev pub named_high : LowModule → FuncNo → LowFunc → List ArgValue → Machine TraceEntry SourceEnd
named_high code n f args = Read (paths args) (high code n f args)

-- lowered code, with objects as what they stand for
abbrev pub numbered_lowered : LowModule → FuncNo → LowFunc → List ArgValue → Machine Numbered SourceEnd
numbered_lowered code n f args = Read objects (lowered code n f args)

abbrev pub named_lowered : LowModule → FuncNo → LowFunc → List ArgValue → Machine TraceEntry SourceEnd
named_lowered code n f args = Read (paths args) (numbered_lowered code n f args)

-- what carries by numbers carries under names
abbrev pub NamedCarries : Type 0
NamedCarries = (code above : LowModule) (n m : FuncNo) (f g : LowFunc) (args : List ArgValue) →
    Carries (numbered_lowered code n f args) (high above m g args) → Carries (named_lowered code n f args) (named_high above m g args)
