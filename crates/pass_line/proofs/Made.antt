-- What a module becomes, told by its parts.
use Rattle.std.proofs.Common.{◌≡◌, string_bytes}
use Rattle.ir_forms.specs.declared.ops.Module.{Module}
use Rattle.low_forms.specs.declared.code.LowModule.{LowModule}
use Rattle.loop_blocks.specs.declared.options.Options.{Options}
use Rattle.parallel_for.specs.Shape.{IsSplit}
use Rattle.mlir_print.specs.Printed.{printed}
use Rattle.low_print.specs.Printed.{printed_code}
use Rattle.pass_line.specs.declared.texts.Texts.{Texts}
use Rattle.pass_line.specs.declared.line.Compiled.{Compiled}
use Rattle.pass_line.specs.Line.{AreTexts, IsCompiled, IsLowered, code_of, prepared, runtime_of}

pub lowered_as : (options : Options) (program halved : Module) (code : LowModule) → IsSplit options (prepared program) halved → code ≡ code_of halved
    → IsLowered options program code
lowered_as options program halved code split is = record { halved = halved; split = split; is = is }

pub texts_as : (halved : Module) (texts : Texts) → string_bytes texts.split ≡ printed halved → string_bytes texts.runtime ≡ printed_code (runtime_of halved)
    → string_bytes texts.counted ≡ printed_code (code_of halved) → string_bytes texts.optimised ≡ printed_code (code_of halved) → AreTexts halved texts
texts_as halved texts split runtime counted optimised = record { split = split; runtime = runtime; counted = counted; optimised = optimised }

pub compiled_as : (options : Options) (program halved : Module) (made : Compiled) → IsSplit options (prepared program) halved → made.code ≡ code_of halved
    → AreTexts halved made.texts → IsCompiled options program made
compiled_as options program halved made split is texts = record { halved = halved; split = split; is = is; texts = texts }
