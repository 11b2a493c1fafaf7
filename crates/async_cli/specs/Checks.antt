-- What `check` and `compile` owe for each answer.
use Rattle.std.specs.Prelude.{ℕ, ◌≡◌, List, length, codes}
use Rattle.aio_base.specs.Whole.{Told}
use Rattle.ir_forms.specs.declared.ops.Module.{Module}
use Rattle.ir_forms.specs.Numbers.{operations_of}
use Rattle.loop_blocks.specs.declared.options.Options.{Options}
use Rattle.async_cli.specs.declared.stops.Stop.{Stop}
use Rattle.async_cli.specs.declared.tool_stops.ToolStop.{ToolStop}
use Rattle.async_cli.specs.declared.tool_stops.ToolStop.TheVariants.{Shared}
use Rattle.async_cli.specs.Texts.{numbered}
use Rattle.async_cli.specs.Answers.{text_limit, IsInput, InputStops, IsAccepted, ModuleStops}
use Rattle.async_cli.specs.Calls.{IsListing}

abbrev pub size_line : ℕ → ℕ → List ℕ
size_line functions operations = numbered (codes "ok: ") functions (numbered (codes " functions, ") operations (codes " operations\n"))

-- how many functions and operations an accepted module has
abbrev pub accepted_line : Module → List ℕ
accepted_line program = size_line (length program.funcs) (operations_of program)

-- what was read is the text of a module that breaks no rule, and the text that is written tells of it so
pub record Accepts (Tells : Module → List ℕ → Type 0) (source : Told) (text : List ℕ) : Type 0 where
  pub bytes : List ℕ
  pub program : Module
  pub input : IsInput text_limit source bytes
  pub accepted : IsAccepted bytes program
  pub told : Tells program text

-- the line tells how large the module is
abbrev pub IsSize : Module → List ℕ → Type 0
IsSize program text = text ≡ accepted_line program

abbrev pub CheckEnds : Told → List ℕ → Type 0
CheckEnds = Accepts IsSize

-- the texts are those of the passes over the module
abbrev pub CompileEnds : Options → Told → List ℕ → Type 0
CompileEnds options = Accepts (IsListing options)

-- why a module isn't accepted: the first of these stages that stops
pub data CheckCauses (source : Told) : ToolStop → Type 0 where
  input : (cause : Stop) → InputStops text_limit source cause → CheckCauses source (Shared cause)
  no_module : (cause : Stop) (bytes : List ℕ) → IsInput text_limit source bytes → ModuleStops bytes cause → CheckCauses source (Shared cause)
