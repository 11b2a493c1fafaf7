-- The call that a run begins with, and the code that it is made of.
use Rattle.std.specs.Prelude.{ℕ, ◌≡◌, ◌<◌, ◌⊎◌, List, [], length, Bool, true, false}
use Rattle.arguments.specs.Fits.{Fits}
use Rattle.ir_forms.specs.declared.args.ArgValue.{ArgValue}
use Rattle.ir_forms.specs.declared.ops.Module.{Module}
use Rattle.ir_forms.specs.declared.runs.FuncNo.{FuncNo}
use Rattle.low_forms.specs.declared.code.LowModule.{LowModule}
use Rattle.loop_blocks.specs.declared.options.Options.{Options}
use Rattle.pass_line.specs.declared.line.Compiled.{Compiled}
use Rattle.pass_line.specs.Line.{IsCompiled, IsLowered}
use Rattle.pass_line.specs.Texts.{all_texts}
use Rattle.async_cli.specs.declared.stops.Stop.{Stop}
use Rattle.async_cli.specs.declared.calls.EntryCall.{EntryCall}
use Rattle.async_cli.specs.declared.calls.Loaded.{Loaded}
use Rattle.async_cli.specs.declared.calls.Made.{Made}
use Rattle.run_report.specs.Notes.{notes_of}
use Rattle.async_cli.specs.Words.{Asked}
use Rattle.async_cli.specs.Answers.{IsAccepted, ModuleStops, Names, EntryStops}

-- of a module the function of this number, and what its parameters hold
pub record Call : Type 0 where
  pub program : Module
  pub function : FuncNo
  pub values : List ArgValue

-- the module's entry that is asked for, with the arguments that are
abbrev pub IsAsked : Asked → Call → Type 0
IsAsked asked c = Names c.program asked c.function (Fits c.values)

-- the call that is asked for, of the module of this text, which breaks no rule
abbrev pub IsCall : List ℕ → Asked → Call → Type 0
IsCall text asked c = IsAccepted text c.program × IsAsked asked c

-- why a text gives no call to run: it gives no module that breaks no rule, or that module has no such call
abbrev pub TextStops : List ℕ → Asked → Stop → Type 0
TextStops text asked stop = ModuleStops text stop ⊎ ((program : Module) × (IsAccepted text program × EntryStops program asked stop))

-- ---- what is run

-- a function of lowered code, and what its parameters hold
pub record Code : Type 0 where
  pub low : LowModule
  pub function : FuncNo
  pub values : List ArgValue

-- this is the code of a call, with its loops split as these options say
pub record IsCodeOf (options : Options) (c : Call) (code : Code) : Type 0 where
  pub low : IsLowered options c.program code.low
  pub function : code.function ≡ c.function
  pub values : code.values ≡ c.values

-- the texts of the passes over a module, each behind a line that names its pass
abbrev pub IsListing : Options → Module → List ℕ → Type 0
IsListing options program text = (made : Compiled) × (IsCompiled options program made × (text ≡ all_texts made.texts))

-- what is printed before an end: the texts of the passes, if they are asked for
abbrev pub IsPrinted : Bool → Options → Module → List ℕ → Type 0
IsPrinted true options program text = IsListing options program text
IsPrinted false options program text = text ≡ []

-- ---- what the code holds of it

abbrev pub held : Loaded → Code
held l = record { low = l.low; function = l.call.function; values = l.call.values }

-- this is the code of the call, with the messages of its module and what is printed of it
pub record IsLoaded (options : Options) (print : Bool) (c : Call) (l : Loaded) : Type 0 where
  pub code : IsCodeOf options c (held l)
  pub notes : l.notes ≡ notes_of c.program
  pub printed : IsPrinted print options c.program l.printed.items

-- the function stands in the code
abbrev pub Stands : Code → Type 0
Stands c = c.function.0 < length c.low.funcs

-- what the passes make of a module
pub record IsMade (options : Options) (print : Bool) (program : Module) (made : Made) : Type 0 where
  pub low : IsLowered options program made.low
  pub printed : IsPrinted print options program made.printed.items

-- what is made of a module and of an entry of it
pub record IsMadeFor (options : Options) (print : Bool) (program : Module) (entry : EntryCall) (l : Loaded) : Type 0 where
  pub low : IsLowered options program l.low
  pub printed : IsPrinted print options program l.printed.items
  pub notes : l.notes ≡ notes_of program
  pub call : l.call ≡ entry
