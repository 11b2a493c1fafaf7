-- How the parts of a call make its answer.
use Rattle.std.proofs.Common.{◌≡◌, ◌≤◌, ℕ, Bool, true, false, if◌then◌else◌, List, [], ◌∷◌, ◌++◌, length, option_and_then, Option, Some, None, Result, Ok, Err, MatchResult, Vec, Global, refl, sym, ap, subst, inr, ◌∙◌}
use Rattle.aio_base.specs.Whole.{Told}
use Rattle.ir_forms.specs.declared.ops.Module.{Module}
use Rattle.step_core.specs.declared.ends.Entry.{Entry}
use Rattle.run_report.specs.declared.note_list.Note.{Note}
use Rattle.async_cli.specs.declared.calls.Loaded.{Loaded}
use Rattle.async_cli.specs.declared.stops.Stop.{Stop}
use Rattle.async_cli.specs.declared.stops.Stop.TheVariants.{Words, OutOfMemory}
use Rattle.async_cli.specs.declared.tool_stops.ToolStop.{ToolStop}
use Rattle.async_cli.specs.declared.tool_stops.ToolStop.TheVariants.{Shared}
use Rattle.async_cli.specs.declared.words.Flags.{Flags}
use Rattle.async_cli.specs.declared.words.Command.{Command}
use Rattle.async_cli.specs.declared.words.Command.TheVariants.{Run}
use Rattle.async_cli.specs.declared.answering.Written.{Written}
use Rattle.async_cli.specs.declared.serving.End.{End}
use Rattle.async_cli.specs.Words.{Asked, AsksFor, AsksNot, asked_of, asked_in, command_of, with_options, are_allowed, entry_in, entry_asked, or_else}
use Rattle.async_cli.specs.Stops.{status_after, stop_status, stop_text, tool_status, tool_text}
use Rattle.async_cli.specs.Answers.{Given, Gave, text_limit, IsInput, IsAccepted, IsWritten}
use Rattle.async_cli.specs.Calls.{Call, IsCall, IsLoaded, Code, held, Stands}
use Rattle.async_cli.specs.Checks.{Accepts, CheckCauses}
use Rattle.async_cli.specs.Inputs.{input_limit, IsSplit}
use Rattle.async_cli.specs.Replays.{IsGiven, AreLines, EntryListStops, JournalStops, IsReplayed, ReplayCauses, ReplayEnds}
use Rattle.async_cli.specs.Tools.{ToolOwes, ToolAnswers, CommandEnds, CommandCauses}
use Rattle.async_cli.specs.Runs.{Enters, Finishes, Ran, RunStops, Causes, Ends, Answers, stop_after}

-- what is told of the code of a call is told of the call
ran_of : (asked : Asked) (c : Call) (l : Loaded) (journal : List Entry) (status : ℕ) (text : List ℕ) → IsLoaded asked.options asked.flags.print c l →
    (end : List ℕ) × (Finishes (held l) l.notes asked.flags journal status end × (text ≡ l.printed.items ++ end)) → Ran asked c journal status text
ran_of asked c l journal status text is ends = record {
  code = held l;
  is = is.code;
  printed = l.printed.items;
  texts = is.printed;
  end = ends.0;
  finishes = subst (λ n. Finishes (held l) n asked.flags journal status ends.0) is.notes ends.1.0;
  told = ends.1.1;
}

enters : (given : Given) (asked : Asked) (text : List ℕ) (c : Call) → AsksFor Run given.words asked → IsInput text_limit given.source text →
    (shown : List ℕ) → shown ≡ text → IsCall shown asked c → Enters given asked c
enters given asked text c asks input shown same is =
    record { asks = asks; text = text; input = input; is = subst (λ t. IsCall t asked c) same is }

-- what the run of a call makes of the whole
pub ran : (given : Given) (asked : Asked) (text : List ℕ) (l : Loaded) (journal : List Entry) (result : Result End Stop) →
    AsksFor Run given.words asked → IsInput text_limit given.source text → (shown : List ℕ) → shown ≡ text →
    (c : Call) × (IsCall shown asked c × (IsLoaded asked.options asked.flags.print c l × Stands (held l))) →
    MatchResult result
    (λ end. (text : List ℕ) × (Finishes (held l) l.notes asked.flags journal end.status text × (end.text.items ≡ l.printed.items ++ text)))
    (λ stop. RunStops (held l) asked.bounds journal stop) →
    MatchResult result (λ end. Ends given journal end.status end.text.items) (λ stop. Causes given journal stop)
ran given asked text l journal (Ok end) asks input shown same found runs = (
  asked,
  (
    found.0,
    (
      enters given asked text found.0 asks input shown same found.1.0,
      ran_of asked found.0 l journal end.status end.text.items found.1.1.0 runs,
    ),
  ),
)
ran given asked text l journal (Err stop) asks input shown same found runs =
    Causes.run stop asked found.0 (held l) (enters given asked text found.0 asks input shown same found.1.0) found.1.1.0.code runs

-- words that ask for another command, or for none
pub asks_other : (words : List (List ℕ)) (other : Asked) → Some other ≡ asked_of words → (other.command ≡ Run → ⊥) → AsksNot Run words
asks_other words other is differs = λ asked asks.
    let same : other ≡ asked = ap (or_else other) (is ∙ asks.0) in differs (ap (λ (a : Asked). a.command) same ∙ asks.1)

pub asks_none : (words : List (List ℕ)) → None ≡ asked_of words → AsksNot Run words
asks_none words none = λ asked asks. let both : None ≡ Some asked = none ∙ asks.0 in absurd (cc both)

-- what is written of it
pub answered : (given : Given) (gave : Gave) (journal : List Entry) (entry : List ℕ) (told : Result End Stop) (status : ℕ) (answer : Option Stop)
    (written : Written) (status_after_it : ℕ) (after : Option Stop) → entry ≡ entry_asked given.words →
    MatchResult told (λ end. Ends given journal end.status end.text.items) (λ stop. Causes given journal stop) →
    MatchResult told (λ end. IsWritten gave end.text.items written) (λ stop. IsWritten gave (stop_text entry stop) written) →
    MatchResult told (λ end. status ≡ end.status) (λ stop. status ≡ stop_status stop) →
    MatchResult told (λ end. answer ≡ None) (λ stop. answer ≡ Some stop) → status_after_it ≡ status_after status written →
    after ≡ stop_after answer written → Answers given gave journal status_after_it after
answered given gave journal entry (Ok end) status answer written later after named owed wrote code is codes ends = record {
  answer = None;
  status_owed = end.status;
  text = end.text.items;
  written = written;
  owed = owed;
  told = wrote;
  is = ends ∙ ap (λ a. stop_after a written) is;
  status_is = codes ∙ ap (λ n. status_after n written) code;
}
answered given gave journal entry (Err stop) status answer written later after named owed wrote code is codes ends = record {
  answer = Some stop;
  status_owed = stop_status stop;
  text = stop_text (entry_asked given.words) stop;
  written = written;
  owed = (owed, (refl, refl));
  told = subst (λ e. IsWritten gave (stop_text e stop) written) named wrote;
  is = ends ∙ ap (λ a. stop_after a written) is;
  status_is = codes ∙ ap (λ n. status_after n written) code;
}

-- ---- `replay`

pub is_given : (source : Told) (bytes shown text : List ℕ) (journal : Option (List ℕ)) → IsInput input_limit source bytes → shown ≡ bytes →
    IsSplit shown text journal → IsGiven source text journal
is_given source bytes shown text journal input same parts =
    record { bytes = bytes; input = input; parts = subst (λ b. IsSplit b text journal) same parts }

-- what the replay of the entries makes of their lines
pub journaled : (c : Code) (notes : List Note) (flags : Flags) (journal : Option (List ℕ)) (entries shown : List Entry) (result : Result End ToolStop) →
    AreLines journal entries → shown ≡ entries →
    MatchResult result (λ end. IsReplayed c notes flags shown end.status end.text.items) (λ stop. EntryListStops c shown stop) →
    MatchResult result (λ end. (entries : List Entry) × (AreLines journal entries × IsReplayed c notes flags entries end.status end.text.items))
    (λ stop. JournalStops c journal stop)
journaled c notes flags journal entries shown (Ok end) lines same ends =
    (entries, (lines, subst (λ es. IsReplayed c notes flags es end.status end.text.items) same ends))
journaled c notes flags journal entries shown (Err stop) lines same ends =
    inr (entries, (lines, subst (λ es. EntryListStops c es stop) same ends))

-- what the replay of a journal makes of the whole
pub replayed : (source : Told) (asked : Asked) (text : List ℕ) (journal : Option (List ℕ)) (l : Loaded) (result : Result End ToolStop) →
    IsGiven source text journal → length text ≤ text_limit →
    (c : Call) × (IsCall text asked c × (IsLoaded asked.options false c l × Stands (held l))) →
    MatchResult result (λ end. (entries : List Entry) × (AreLines journal entries
    × IsReplayed (held l) l.notes asked.flags entries end.status end.text.items)) (λ stop. JournalStops (held l) journal stop) →
    MatchResult result (λ end. ReplayEnds source asked end.status end.text.items) (λ stop. ReplayCauses source asked stop)
replayed source asked text journal l (Ok end) given within found ends = record {
  program = text;
  journal = journal;
  c = found.0;
  code = held l;
  entries = ends.0;
  was_given = given;
  within = within;
  is = found.1.0;
  code_is = found.1.1.0.code;
  lines = ends.1.0;
  replayed = subst (λ n. IsReplayed (held l) n asked.flags ends.0 end.status end.text.items) found.1.1.0.notes ends.1.1;
}
replayed source asked text journal l (Err stop) given within found ends =
    ReplayCauses.no_run stop text journal found.0 (held l) given within found.1.0 found.1.1.0.code ends

-- ---- `check` and `compile`

-- what is told of an accepted module makes of the whole call
pub accepts : (Tells : Module → List ℕ → Type 0) (source : Told) (bytes shown : List ℕ) (program seen : Module) (result : Result (Vec ℕ Global) ToolStop) →
    IsInput text_limit source bytes → shown ≡ bytes → IsAccepted shown program → seen ≡ program →
    MatchResult result (λ t. Tells seen t.items) (λ stop. stop ≡ Shared OutOfMemory) →
    MatchResult result (λ t. Accepts Tells source t.items) (λ stop. CheckCauses source stop)
accepts Tells source bytes shown program seen (Ok text) input same accepted is told = record {
  bytes = bytes;
  program = program;
  input = input;
  accepted = subst (λ b. IsAccepted b program) same accepted;
  told = subst (λ p. Tells p text.items) is told;
}
accepts Tells source bytes shown program seen (Err stop) input same accepted is told =
    subst (CheckCauses source) (sym told) (CheckCauses.input OutOfMemory tt)

-- ---- `tool`

-- an end with status 0
pub done_ends : (P : List ℕ → Type 0) (Q : ToolStop → Type 0) (inner : Result (Vec ℕ Global) ToolStop) (outer : Result End ToolStop) →
    MatchResult outer (λ end. (end.status ≡ 0) × (inner ≡ Ok end.text)) (λ stop. inner ≡ Err stop) →
    MatchResult inner (λ t. P t.items) Q →
    MatchResult outer (λ end. (end.status ≡ 0) × P end.text.items) Q
done_ends P Q (Ok text) (Ok end) is holds =
    let same : text ≡ end.text = cc is.1 in (is.0, subst (λ (t : Vec ℕ Global). P t.items) same holds)
done_ends P Q (Ok text) (Err stop) is holds = absurd (cc is)
done_ends P Q (Err cause) (Ok end) is holds = absurd (cc is.1)
done_ends P Q (Err cause) (Err stop) is holds = let same : cause ≡ stop = cc is in subst Q same holds

-- the entry that is asked for is that in the words
allowed : (b : Bool) (made asked : Asked) → (if b then Some made else None) ≡ Some asked → made ≡ asked
allowed true made asked is = cc is
allowed false made asked is = absurd (cc is)

commanded : (c : Option Command) (words : List (List ℕ)) (asked : Asked) → option_and_then (with_options words) c ≡ Some asked → entry_in words ≡ asked.entry
commanded None words asked is = absurd (cc is)
commanded (Some c) words asked is = ap (λ (a : Asked). a.entry) (allowed (are_allowed words) (asked_in words c) asked is)

entry_is : (words : List (List ℕ)) (asked : Asked) → asked_of words ≡ Some asked → entry_asked words ≡ asked.entry
entry_is [] asked is = absurd (cc is)
entry_is (word ∷ words) asked is = commanded (command_of word) words asked is

-- what a command gives makes what is owed
pub served : (given : Given) (asked : Asked) (result : Result End ToolStop) → Some asked ≡ asked_of given.words →
    MatchResult result (λ end. CommandEnds asked.command given.source asked end.status end.text.items)
    (λ stop. CommandCauses asked.command given.source asked stop) →
    MatchResult result (λ end. ToolOwes given end.status end.text.items)
    (λ stop. ToolOwes given (tool_status stop) (tool_text (entry_asked given.words) stop))
served given asked (Ok end) is ends = ToolOwes.ended asked end.status end.text.items (sym is) ends
served given asked (Err stop) is causes =
    subst (λ e. ToolOwes given (tool_status stop) (tool_text e stop)) (sym (entry_is given.words asked (sym is))) (ToolOwes.stopped asked stop (sym is) causes)

pub refused : (given : Given) → None ≡ asked_of given.words →
    ToolOwes given (tool_status (Shared Words)) (tool_text (entry_asked given.words) (Shared Words))
refused given none = ToolOwes.words (sym none)

pub tool_answered : (given : Given) (gave : Gave) (entry : List ℕ) (told : Result End ToolStop) (status : ℕ) (written : Written) (after : ℕ) →
    entry ≡ entry_asked given.words →
    MatchResult told (λ end. ToolOwes given end.status end.text.items)
    (λ stop. ToolOwes given (tool_status stop) (tool_text (entry_asked given.words) stop)) →
    MatchResult told (λ end. IsWritten gave end.text.items written) (λ stop. IsWritten gave (tool_text entry stop) written) →
    MatchResult told (λ end. status ≡ end.status) (λ stop. status ≡ tool_status stop) → after ≡ status_after status written →
    ToolAnswers given gave after
tool_answered given gave entry (Ok end) status written after named owed wrote is ends = record {
  status = end.status;
  text = end.text.items;
  written = written;
  owed = owed;
  told = wrote;
  is = ends ∙ ap (λ n. status_after n written) is;
}
tool_answered given gave entry (Err stop) status written after named owed wrote is ends = record {
  status = tool_status stop;
  text = tool_text (entry_asked given.words) stop;
  written = written;
  owed = owed;
  told = subst (λ e. IsWritten gave (tool_text e stop) written) named wrote;
  is = ends ∙ ap (λ n. status_after n written) is;
}
