-- The functions that calls name in a module whose tasks are functions.
use Rattle.std.specs.Prelude.{◌≡◌, Some}
use Rattle.ir_forms.specs.declared.ops.Func.{Func}
use Rattle.ir_forms.specs.declared.ops.Module.{Module}
use Rattle.ir_forms.specs.declared.ops.Op.{Op}
use Rattle.ir_forms.specs.Ops.{attr_of}
use Rattle.ir_verify.specs.Places.{called}
use Rattle.ir_verify.specs.Verdict.{IsSound}
use Rattle.exec_outline.specs.Shape.{outlined}
use Rattle.outlined_types.specs.Operations.{IsFound}

-- where an operation of a sound module names a function, it names one with the same types and no task once the tasks are functions
abbrev pub CalledAreFound : Type 0
CalledAreFound = (program : Module) → IsSound program.funcs → (o : Op) (f : Func) → called program.funcs (attr_of o) ≡ Some f → IsFound (outlined program) o f
