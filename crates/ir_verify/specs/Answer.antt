-- What `verify` answers.
use Rattle.std.specs.Prelude.{◌≡◌, Result, Ok, Err}
use Rattle.ir_forms.specs.declared.ops.Module.{Module}
use Rattle.ir_verify.specs.declared.outcome.VerifyFault.{VerifyFault}
use Rattle.ir_verify.specs.declared.outcome.VerifyFault.TheVariants.{Fault, OutOfMemory}
use Rattle.ir_verify.specs.Verdict.{IsSound, IsFirst}
use Rattle.ir_verify.specs.Levels.{level_of}
use Rattle.ir_verify.specs.Verified.{Leveled}

-- the module breaks no rule and is the answer, at its least level; or this is the first rule that it breaks; or there
-- was no memory to tell
abbrev pub IsAnswer : Module → Result Leveled VerifyFault → Type 0
IsAnswer program (Ok v) = IsSound program.funcs × (v ≡ record { program = program; level = level_of program.funcs })
IsAnswer program (Err (Fault op kind)) = IsFirst program.funcs (record { op = op; kind = kind })
IsAnswer program (Err OutOfMemory) = Unit {0}
