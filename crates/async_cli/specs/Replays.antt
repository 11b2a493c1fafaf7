-- What `replay` owes for each answer.
use Rattle.std.specs.Prelude.{ℕ, ◌≡◌, ◌≤◌, ◌<◌, ◌⊎◌, List, length, Option, Some, None, ⊤}
use Rattle.aio_base.specs.Whole.{Told}
use Rattle.step_core.specs.declared.ends.Entry.{Entry}
use Rattle.step_core.specs.declared.limits.Limits.{Limits}
use Rattle.step_core.specs.Core.{Core}
use Rattle.step_core.specs.Runs.{and_then}
use Rattle.run_journal.specs.declared.faults.ReplayFault.{ReplayFault}
use Rattle.run_journal.specs.declared.faults.ReplayFault.TheVariants as fault
use Rattle.run_journal.specs.Lines.{journal_lines, AreEntries, IsFirstBadLine}
use Rattle.run_journal.specs.Replay.{first_fault}
use Rattle.run_journal.specs.Within.{replay_within}
use Rattle.serial_run.specs.Outcomes.{IsUnfinished}
use Rattle.run_report.specs.declared.note_list.Note.{Note}
use Rattle.run_report.specs.Notes.{notes_of}
use Rattle.async_cli.specs.declared.stops.Stop.{Stop}
use Rattle.async_cli.specs.declared.stops.Stop.TheVariants as stop
use Rattle.async_cli.specs.declared.tool_stops.ToolStop.{ToolStop}
use Rattle.async_cli.specs.declared.tool_stops.ToolStop.TheVariants.{Shared, BadLine, NotARun, Unfinished}
use Rattle.async_cli.specs.declared.words.Flags.{Flags}
use Rattle.async_cli.specs.Words.{Asked}
use Rattle.async_cli.specs.Answers.{text_limit, IsInput, InputStops}
use Rattle.async_cli.specs.Calls.{Call, IsCall, TextStops, Code, IsCodeOf}
use Rattle.async_cli.specs.Inputs.{input_limit, IsSplit}
use Rattle.async_cli.specs.Runs.{start_of, Finishes}

-- All that the source had was read: a module's text, and what stands behind the line `-- journal`.
pub record IsGiven (source : Told) (text : List ℕ) (journal : Option (List ℕ)) : Type 0 where
  pub bytes : List ℕ
  pub input : IsInput input_limit source bytes
  pub parts : IsSplit bytes text journal

-- objects and tasks have no limit but their numbers
abbrev pub replay_limits : Limits
replay_limits = record { objects = 4294967295; tasks = 4294967295; cells = 16777216; frames = 1024 }

-- over this code the entries are possible within these limits, and lead to this state
abbrev pub ReplaysTo : Code → List Entry → Core → Type 0
ReplaysTo c entries s = and_then (replay_within replay_limits c.low entries) (start_of c) ≡ Some s

-- the first of the entries that isn't possible within these limits
abbrev pub first_bad : Code → List Entry → Option ReplayFault
first_bad c entries = and_then (first_fault replay_limits c.low 0 entries) (start_of c)

-- why what stands behind the line `-- journal` isn't a journal
abbrev pub LineStops : Option (List ℕ) → ToolStop → Type 0
LineStops None (BadLine line) = line ≡ 0
LineStops (Some lines) (BadLine line) = IsFirstBadLine lines line
LineStops journal (Shared stop.OutOfMemory) = ⊤
LineStops journal _ = ⊥

-- these are the lines of the entries
abbrev pub AreLines : Option (List ℕ) → List Entry → Type 0
AreLines journal entries = (journal ≡ Some (journal_lines entries)) × AreEntries entries

-- why entries aren't those of a finished run of this code
abbrev pub EntryListStops : Code → List Entry → ToolStop → Type 0
EntryListStops c entries (NotARun number named kept) = first_bad c entries ≡ Some (fault.NotARun number named kept)
EntryListStops c entries (Unfinished count) = (s : Core) × (ReplaysTo c entries s × (IsUnfinished s × (count ≡ length entries)))
EntryListStops c entries (Shared stop.OutOfMemory) = ⊤
EntryListStops c entries _ = ⊥

-- the journal can't be read, or its entries aren't those of a finished run of this code
abbrev pub JournalStops : Code → Option (List ℕ) → ToolStop → Type 0
JournalStops c journal cause = LineStops journal cause ⊎ ((entries : List Entry) × (AreLines journal entries × EntryListStops c entries cause))

-- Over this code the entries are a finished run, also within the limits of a replay. The status and the text are those of its end.
pub record IsReplayed (c : Code) (notes : List Note) (flags : Flags) (entries : List Entry) (status : ℕ) (text : List ℕ) : Type 0 where
  pub finishes : Finishes c notes flags entries status text
  pub within : ReplaysTo c entries finishes.state

-- Why nothing was replayed to its end: the first of these stages that stops.
pub data ReplayCauses (source : Told) (asked : Asked) : ToolStop → Type 0 where
  input : (cause : Stop) → InputStops input_limit source cause → ReplayCauses source asked (Shared cause)
  long_text : (text : List ℕ) (journal : Option (List ℕ)) → IsGiven source text journal → text_limit < length text
      → ReplayCauses source asked (Shared (stop.TooLong text_limit))
  no_call : (cause : Stop) (text : List ℕ) (journal : Option (List ℕ)) → IsGiven source text journal → length text ≤ text_limit
      → TextStops text asked cause → ReplayCauses source asked (Shared cause)
  no_run : (cause : ToolStop) (text : List ℕ) (journal : Option (List ℕ)) (c : Call) (code : Code) → IsGiven source text journal
      → length text ≤ text_limit → IsCall text asked c → IsCodeOf asked.options c code → JournalStops code journal cause
      → ReplayCauses source asked cause

-- What was read is the text of a module with the call that is asked for, and the journal of a finished run of it.
pub record ReplayEnds (source : Told) (asked : Asked) (status : ℕ) (text : List ℕ) : Type 0 where
  pub program : List ℕ
  pub journal : Option (List ℕ)
  pub c : Call
  pub code : Code
  pub entries : List Entry
  pub was_given : IsGiven source program journal
  pub within : length program ≤ text_limit
  pub is : IsCall program asked c
  pub code_is : IsCodeOf asked.options c code
  pub lines : AreLines journal entries
  pub replayed : IsReplayed code (notes_of c.program) asked.flags entries status text
