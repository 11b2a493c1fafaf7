-- The code of a module: all passes, one behind another.
use Rattle.std.specs.Prelude.{◌≡◌, string_bytes}
use Rattle.ir_forms.specs.declared.ops.Module.{Module}
use Rattle.low_forms.specs.declared.code.LowModule.{LowModule}
use Rattle.loop_blocks.specs.declared.options.Options.{Options}
use Rattle.value_numbers.specs.Numbers.{value_numbered}
use Rattle.check_insert.specs.Shape.{checked}
use Rattle.parallel_for.specs.Shape.{IsSplit}
use Rattle.exec_outline.specs.Shape.{outlined}
use Rattle.scf_blocks.specs.Lowered.{lowered}
use Rattle.coro_lower.specs.Shape.{runtime_code}
use Rattle.ref_counting.specs.Shape.{counted_code}
use Rattle.mlir_print.specs.Printed.{printed}
use Rattle.low_print.specs.Printed.{printed_code}
use Rattle.pass_line.specs.declared.texts.Texts.{Texts}
use Rattle.pass_line.specs.declared.line.Compiled.{Compiled}

-- a module with its checks, whose values are numbered by their places
abbrev pub prepared : Module → Module
prepared program = value_numbered (checked program)

-- in blocks, with the rows of the runtime, and with a function for each task; of a module without parallel loops
abbrev pub runtime_of : Module → LowModule
runtime_of halved = runtime_code (lowered (outlined halved))

-- with its counts
abbrev pub code_of : Module → LowModule
code_of halved = counted_code (runtime_of halved)

-- what all passes make of a module
pub record IsLowered (options : Options) (program : Module) (code : LowModule) : Type 0 where
  pub halved : Module
  pub split : IsSplit options (prepared program) halved
  pub is : code ≡ code_of halved

-- a module without parallel loops, in blocks, with its counts, and as the optimiser leaves it, which changes nothing yet
pub record AreTexts (halved : Module) (texts : Texts) : Type 0 where
  pub split : string_bytes texts.split ≡ printed halved
  pub runtime : string_bytes texts.runtime ≡ printed_code (runtime_of halved)
  pub counted : string_bytes texts.counted ≡ printed_code (code_of halved)
  pub optimised : string_bytes texts.optimised ≡ printed_code (code_of halved)

-- the same, with the texts
pub record IsCompiled (options : Options) (program : Module) (made : Compiled) : Type 0 where
  pub halved : Module
  pub split : IsSplit options (prepared program) halved
  pub is : made.code ≡ code_of halved
  pub texts : AreTexts halved made.texts
