-- What `source` owes for each answer.
use Rattle.std.specs.Prelude.{ℕ, ◌≡◌, Bool, true, false, List, Option, None}
use Rattle.aio_base.specs.Whole.{Told}
use Rattle.arguments.specs.Fits.{Fits}
use Rattle.ir_forms.specs.declared.args.ArgValue.{ArgValue}
use Rattle.ir_forms.specs.declared.names.TraceEntry.{TraceEntry}
use Rattle.ir_forms.specs.declared.ops.Module.{Module}
use Rattle.ir_forms.specs.declared.runs.FuncNo.{FuncNo}
use Rattle.race_order.specs.Race.{IsAnswer}
use Rattle.run_report.specs.Source.{has_ended, source_status, source_text}
use Rattle.source_meaning.specs.declared.ends.SourceEnd.{SourceEnd}
use Rattle.source_meaning.specs.Sequential.{Means}
use Rattle.async_cli.specs.declared.stops.Stop.{Stop}
use Rattle.async_cli.specs.declared.tool_stops.ToolStop.{ToolStop}
use Rattle.async_cli.specs.declared.tool_stops.ToolStop.TheVariants.{Shared}
use Rattle.async_cli.specs.Words.{Asked}
use Rattle.async_cli.specs.Answers.{text_limit, IsInput, InputStops, IsAccepted, ModuleStops, Names, EntryStops}

-- the sequential run of the entry that is asked for, with the arguments and the fuel that are, has this end and this trace
pub record IsRun (program : Module) (asked : Asked) (end : SourceEnd) (trace : List TraceEntry) : Type 0 where
  pub function : FuncNo
  pub values : List ArgValue
  pub names : Names program asked function (Fits values)
  pub means : Means program function.0 values asked.fuel end trace

-- where the run ended by its root, the first race of its trace; a run that was stopped is asked for none
abbrev pub IsRace : Bool → List TraceEntry → Option (ℕ × ℕ) → Type 0
IsRace true trace race = IsAnswer trace race
IsRace false trace race = race ≡ None

-- the status and the text are those of the run with the first race of its trace
pub record IsReported (program : Module) (asked : Asked) (status : ℕ) (text : List ℕ) : Type 0 where
  pub end : SourceEnd
  pub trace : List TraceEntry
  pub race : Option (ℕ × ℕ)
  pub run : IsRun program asked end trace
  pub first : IsRace (has_ended end) trace race
  pub status_is : status ≡ source_status end race
  pub told : text ≡ source_text program end trace race

-- What was read is the text of a module that breaks no rule, and its run is reported.
pub record SourceEnds (source : Told) (asked : Asked) (status : ℕ) (text : List ℕ) : Type 0 where
  pub bytes : List ℕ
  pub program : Module
  pub input : IsInput text_limit source bytes
  pub accepted : IsAccepted bytes program
  pub reported : IsReported program asked status text

-- Why no run is reported: the first of these stages that stops.
pub data SourceCauses (source : Told) (asked : Asked) : ToolStop → Type 0 where
  input : (cause : Stop) → InputStops text_limit source cause → SourceCauses source asked (Shared cause)
  no_module : (cause : Stop) (bytes : List ℕ) → IsInput text_limit source bytes → ModuleStops bytes cause → SourceCauses source asked (Shared cause)
  no_run : (cause : Stop) (bytes : List ℕ) (program : Module) → IsInput text_limit source bytes → IsAccepted bytes program
      → EntryStops program asked cause → SourceCauses source asked (Shared cause)
