-- What `run` owes for each answer.
use Rattle.std.specs.Prelude.{ℕ, ◌≡◌, ◌+◌, ◌<◌, List, [], ◌++◌, length, slice_get, Option, Some, None, MatchOption}
use Rattle.std.specs.Option.{option_map}
use Rattle.step_core.specs.declared.ends.Entry.{Entry}
use Rattle.step_core.specs.declared.limits.Limit.{Limit}
use Rattle.step_core.specs.declared.limits.Limit.TheVariants as limit
use Rattle.step_core.specs.declared.limits.Limits.{Limits}
use Rattle.step_core.specs.State.{counts_of, end_of, live_tasks}
use Rattle.step_core.specs.Core.{Core, start}
use Rattle.step_core.specs.Runs.{IsFinished, and_then, replay}
use Rattle.serial_run.specs.declared.outcome.Outcome.{Outcome}
use Rattle.serial_run.specs.declared.outcome.Outcome.TheVariants as outcome
use Rattle.serial_run.specs.Outcomes.{IsUnfinished, IsHeldUp, MeetsLimit}
use Rattle.run_report.specs.declared.note_list.Note.{Note}
use Rattle.run_report.specs.Notes.{notes_of}
use Rattle.async_cli.specs.declared.stops.Stop.{Stop}
use Rattle.async_cli.specs.declared.stops.Stop.TheVariants.{Words, Short, Objects, Tasks, Cells, Stack, Group, Spent, Write, OutOfMemory}
use Rattle.async_cli.specs.declared.words.Bounds.{Bounds}
use Rattle.async_cli.specs.declared.words.Flags.{Flags}
use Rattle.async_cli.specs.declared.words.Command.TheVariants.{Run}
use Rattle.async_cli.specs.declared.answering.Written.{Written}
use Rattle.async_cli.specs.declared.answering.Written.TheVariants.{Whole, Broken, NoMemory}
use Rattle.async_cli.specs.Words.{Asked, AsksFor, AsksNot, entry_asked}
use Rattle.async_cli.specs.Texts.{end_status, run_text}
use Rattle.async_cli.specs.Stops.{limit_stop, stop_status, stop_text, status_after}
use Rattle.async_cli.specs.Answers.{Given, Gave, text_limit, IsInput, InputStops, IsWritten}
use Rattle.async_cli.specs.Calls.{Call, IsCall, TextStops, Code, IsCodeOf, IsPrinted}

-- the words ask for a run, and this is the call that they ask for, of the module whose text was read
pub record Enters (given : Given) (asked : Asked) (c : Call) : Type 0 where
  pub asks : AsksFor Run given.words asked
  pub text : List ℕ
  pub input : IsInput text_limit given.source text
  pub is : IsCall text asked c

-- the core over this code in which no step was taken
abbrev pub start_of : Code → Option Core
start_of c = option_map (λ f. start c.function f c.values) (slice_get c.low.funcs c.function.0)

-- over this code the journal is possible, and leads to this state
abbrev pub LeadsTo : Code → List Entry → Core → Type 0
LeadsTo c journal s = and_then (replay c.low journal) (start_of c) ≡ Some s

-- the status and the text are those of the end in this state, after this journal
abbrev pub TellsEnd : List Note → Flags → Core → List Entry → ℕ → List ℕ → Type 0
TellsEnd notes flags s journal status text = MatchOption (end_of s.plain) ⊥
    (λ end. (status ≡ end_status end) × (text ≡ run_text notes flags end (counts_of s.plain) journal))

-- Over this code the journal is a finished run. The status and the text are those of its end.
pub record Finishes (c : Code) (notes : List Note) (flags : Flags) (journal : List Entry) (status : ℕ) (text : List ℕ) : Type 0 where
  pub state : Core
  pub replayed : LeadsTo c journal state
  pub finished : IsFinished state
  pub told : TellsEnd notes flags state journal status text

-- Over the code of the call the journal is a finished run. The status is that of its end; the text is what is printed before
-- it, and the end's.
pub record Ran (asked : Asked) (c : Call) (journal : List Entry) (status : ℕ) (text : List ℕ) : Type 0 where
  pub code : Code
  pub is : IsCodeOf asked.options c code
  pub printed : List ℕ
  pub texts : IsPrinted asked.flags.print asked.options c.program printed
  pub end : List ℕ
  pub finishes : Finishes code (notes_of c.program) asked.flags journal status end
  pub told : text ≡ printed ++ end

-- ---- why a run has no end

-- a run may have so many live objects, and 64 tasks more
abbrev pub limits_of : Bounds → Limits
limits_of bounds = record { objects = bounds.objects; tasks = bounds.objects + 64; cells = 16777216; frames = 1024 }

-- The journal leads to a state that isn't finished. In it a task's steps up to its next shared one, or that one, would pass
-- this limit.
pub record IsLimited (c : Code) (bounds : Bounds) (journal : List Entry) (l : Limit) : Type 0 where
  pub state : Core
  pub replayed : LeadsTo c journal state
  pub unfinished : IsUnfinished state
  pub meets : MeetsLimit l (limits_of bounds) c.low state
  pub room : length journal < bounds.entries

-- The journal leads to a state that isn't finished and is held up, in which so many tasks are left.
pub record IsShort (c : Code) (bounds : Bounds) (journal : List Entry) (parked : ℕ) : Type 0 where
  pub state : Core
  pub replayed : LeadsTo c journal state
  pub unfinished : IsUnfinished state
  pub left : parked ≡ live_tasks state.plain.tasks
  pub held_up : IsHeldUp c.low state
  pub room : length journal < bounds.entries

-- The journal is as long as it may be, and leads to a state that isn't finished.
pub record IsSpent (c : Code) (bounds : Bounds) (journal : List Entry) (entries : ℕ) : Type 0 where
  pub state : Core
  pub replayed : LeadsTo c journal state
  pub unfinished : IsUnfinished state
  pub told : entries ≡ bounds.entries
  pub full : length journal ≡ bounds.entries

abbrev pub RunStops : Code → Bounds → List Entry → Stop → Type 0
RunStops c bounds journal (Short parked) = IsShort c bounds journal parked
RunStops c bounds journal (Objects live) = IsLimited c bounds journal (limit.Objects live)
RunStops c bounds journal (Tasks live) = IsLimited c bounds journal (limit.Tasks live)
RunStops c bounds journal (Cells used) = IsLimited c bounds journal (limit.Cells used)
RunStops c bounds journal (Stack depth) = IsLimited c bounds journal (limit.Stack depth)
RunStops c bounds journal (Group size) = IsLimited c bounds journal (limit.Group size)
RunStops c bounds journal (Spent entries) = IsSpent c bounds journal entries
RunStops c bounds journal OutOfMemory = (s : Core) × LeadsTo c journal s
RunStops c bounds journal _ = ⊥

-- the answer after this outcome, where there is no end
abbrev pub outcome_stop : ℕ → Outcome → Option Stop
outcome_stop most outcome.Finished = None
outcome_stop most (outcome.Short parked) = Some (Short parked)
outcome_stop most (outcome.Stopped l) = Some (limit_stop l)
outcome_stop most outcome.Spent = Some (Spent most)

-- Why there is no end of a run: the first of these stages that stops. Before the run the journal is empty.
pub data Causes (given : Given) (journal : List Entry) : Stop → Type 0 where
  words : journal ≡ [] → AsksNot Run given.words → Causes given journal Words
  input : (stop : Stop) (asked : Asked) → journal ≡ [] → AsksFor Run given.words asked → InputStops text_limit given.source stop
      → Causes given journal stop
  call : (stop : Stop) (asked : Asked) (text : List ℕ) → journal ≡ [] → AsksFor Run given.words asked
      → IsInput text_limit given.source text → TextStops text asked stop → Causes given journal stop
  no_memory : journal ≡ [] → Causes given journal OutOfMemory
  run : (stop : Stop) (asked : Asked) (c : Call) (code : Code) → Enters given asked c → IsCodeOf asked.options c code
      → RunStops code asked.bounds journal stop → Causes given journal stop

-- ---- what is owed

-- an end, with its status and its text
abbrev pub Ends : Given → List Entry → ℕ → List ℕ → Type 0
Ends given journal status text = (asked : Asked) × ((c : Call) × (Enters given asked c × Ran asked c journal status text))

-- what an answer owes beside a failed write: an end or a cause, its status and its text
abbrev pub Owes : Given → List Entry → Option Stop → ℕ → List ℕ → Type 0
Owes given journal None status text = Ends given journal status text
Owes given journal (Some stop) status text =
    Causes given journal stop × ((status ≡ stop_status stop) × (text ≡ stop_text (entry_asked given.words) stop))

-- the answer after what became of its text
abbrev pub stop_after : Option Stop → Written → Option Stop
stop_after answer Whole = answer
stop_after answer (Broken written) = Some (Write written)
stop_after answer NoMemory = Some OutOfMemory

-- What a call owes for its answer `after` with this status: the one owed, or one that tells why its text wasn't written.
pub record Answers (given : Given) (gave : Gave) (journal : List Entry) (status : ℕ) (after : Option Stop) : Type 0 where
  pub answer : Option Stop
  pub status_owed : ℕ
  pub text : List ℕ
  pub written : Written
  pub owed : Owes given journal answer status_owed text
  pub told : IsWritten gave text written
  pub is : after ≡ stop_after answer written
  pub status_is : status ≡ status_after status_owed written
