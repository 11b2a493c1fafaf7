-- What the commands have in common: what a call reads and writes, and in which order it refuses.
use Rattle.std.specs.Prelude.{ℕ, ◌≡◌, ◌≤◌, List, [], length, map, slice_get, Option, Result, Ok, Err, ⊤}
use Rattle.std.specs.Io.KnownBytes.{Appends}
use Rattle.aio_base.specs.Faults.{Rose}
use Rattle.aio_base.specs.Whole.{Told, ReadsWhole, ReadsPast, WritesFront}
use Rattle.arguments.specs.Fits.{Fitted, Wrong, fitted_args}
use Rattle.ir_forms.specs.declared.args.Arg.{Arg}
use Rattle.ir_forms.specs.declared.types.Ty.{Ty}
use Rattle.ir_forms.specs.declared.ops.Module.{Module}
use Rattle.ir_forms.specs.declared.runs.FuncNo.{FuncNo}
use Rattle.ir_forms.specs.Numbers.{renumbered}
use Rattle.op_table.specs.declared.rows.Level.TheVariants.{Source}
use Rattle.mlir_text.specs.declared.fault.TextFault.TheVariants as text_fault
use Rattle.mlir_text.specs.declared.reader.TheConstants.{PROGRAM_LIMITS}
use Rattle.mlir_text.specs.Texts.{IsTextOf, IsRefused}
use Rattle.ir_verify.specs.declared.entry.EntryFault.{EntryFault}
use Rattle.ir_verify.specs.declared.entry.EntryFault.TheVariants as entry_fault
use Rattle.ir_verify.specs.Entry.{entry_from}
use Rattle.ir_verify.specs.Verdict.{IsSound, IsFirst}
use Rattle.async_cli.specs.declared.stops.Stop.{Stop}
use Rattle.async_cli.specs.declared.stops.Stop.TheVariants.{Read, TooLong, NoEntry, EntryType, Args, OutOfMemory}
use Rattle.async_cli.specs.declared.stops.Stop.TheVariants as stop
use Rattle.async_cli.specs.declared.stops.ModuleFault.TheVariants.{Text, Verify}
use Rattle.async_cli.specs.declared.answering.Written.{Written}
use Rattle.async_cli.specs.declared.answering.Written.TheVariants.{Whole, Broken, NoMemory}
use Rattle.source_meaning.specs.Parts.{func_params}
use Rattle.async_cli.specs.Words.{Asked}

-- what a call is given: its words, and what its source tells before it and after it
pub record Given : Type 0 where
  pub words : List (List ℕ)
  pub source : Told

-- what a call's sink tells before it and after it
pub record Gave : Type 0 where
  pub taken : Option (List ℕ)
  pub taken_after : Option (List ℕ)
  pub faults : ℕ
  pub faults_after : ℕ

-- ---- what is read

-- the most bytes of a module's text
abbrev pub text_limit : ℕ
text_limit = 1048576

-- all that the source had was read, and it is no more than the limit
abbrev pub IsInput : ℕ → Told → List ℕ → Type 0
IsInput limit source bytes = ReadsWhole source.left source.left_after bytes × (length bytes ≤ limit)

-- why not all was read
abbrev pub InputStops : ℕ → Told → Stop → Type 0
InputStops limit source Read = Rose source.faults source.faults_after
InputStops limit source (TooLong most) = (most ≡ limit) × ReadsPast source.left source.left_after limit
InputStops limit source OutOfMemory = ⊤
InputStops limit source _ = ⊥

-- the text is that of this module, whose operations are numbered by their places
abbrev pub ReadsModule : List ℕ → Module → Type 0
ReadsModule text program = (m : Module) × (IsTextOf PROGRAM_LIMITS Source text m × (program ≡ renumbered m))

-- the text is that of this module, which breaks no rule
abbrev pub IsAccepted : List ℕ → Module → Type 0
IsAccepted text program = ReadsModule text program × IsSound program.funcs

-- why a text gives no module that breaks no rule
abbrev pub ModuleStops : List ℕ → Stop → Type 0
ModuleStops text (stop.Module (Text text_fault.OutOfMemory)) = ⊥
ModuleStops text (stop.Module (Text fault)) = IsRefused PROGRAM_LIMITS Source text fault
ModuleStops text (stop.Module (Verify op kind)) = (program : Module) × (ReadsModule text program × IsFirst program.funcs (record { op = op; kind = kind }))
ModuleStops text OutOfMemory = ⊤
ModuleStops text _ = ⊥

-- the first function of this name
abbrev pub entry_of : Module → List ℕ → Result FuncNo EntryFault
entry_of program name = entry_from 0 program.funcs name

-- the types of the parameters of the function at a place
abbrev pub types_at : Module → FuncNo → List Ty
types_at program function = map (λ p. p.1) (func_params (slice_get program.funcs function.0))

-- this is the entry that is asked for, and the arguments come to this for its parameters
pub record Names (program : Module) (asked : Asked) (function : FuncNo) (fitted : Fitted) : Type 0 where
  pub found : entry_of program asked.entry ≡ Ok function
  pub fits : fitted_args (types_at program function) asked.args ≡ fitted

-- why the entry isn't found
abbrev pub FindStops : Module → List ℕ → Stop → Type 0
FindStops program name NoEntry = entry_of program name ≡ Err entry_fault.NoEntry
FindStops program name (EntryType op) = entry_of program name ≡ Err (entry_fault.EntryType op)
FindStops program name OutOfMemory = ⊤
FindStops program name _ = ⊥

-- why arguments don't fit parameters of these types
abbrev pub FitStops : List Ty → List Arg → Stop → Type 0
FitStops types args (Args at) = fitted_args types args ≡ Wrong at
FitStops types args OutOfMemory = ⊤
FitStops types args _ = ⊥

-- why a module has no entry that can be called as it is asked for
abbrev pub EntryStops : Module → Asked → Stop → Type 0
EntryStops program asked (Args at) = (function : FuncNo) × Names program asked function (Wrong at)
EntryStops program asked stop = FindStops program asked.entry stop

-- ---- what is written

-- What became of an answer's text: it was written whole, or a write failed after some first bytes, or there was no memory for
-- the text and nothing was taken.
abbrev pub IsWritten : Gave → List ℕ → Written → Type 0
IsWritten gave text Whole = Appends gave.taken gave.taken_after text
IsWritten gave text (Broken written) = Rose gave.faults gave.faults_after × WritesFront gave.taken gave.taken_after text written
IsWritten gave text NoMemory = Appends gave.taken gave.taken_after []
