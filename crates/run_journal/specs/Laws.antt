-- What holds of all journals.
use Rattle.std.specs.Prelude.{◌≡◌, ◌≢◌, ℕ, ◌<◌, true, List, Option, Some, None, IsSome, MatchOption, ◌⊎◌, ◌↔◌, ⊤}
use Rattle.low_forms.specs.declared.code.LowModule.{LowModule}
use Rattle.step_core.specs.declared.ends.Entry.{Entry}
use Rattle.step_core.specs.declared.limits.Limits.{Limits}
use Rattle.step_core.specs.Core.{Core}
use Rattle.step_core.specs.Runs.{longest_burst, entry_after, replay}
use Rattle.run_journal.specs.declared.faults.TaskLook.{TaskLook}
use Rattle.run_journal.specs.Within.{step_within, burst_within, entry_within, replay_within}
use Rattle.run_journal.specs.Replay.{look, first_fault}
use Rattle.run_journal.specs.Lines.{journal_lines, AreEntries, IsFirstBadLine}

-- bytes are read in one way: as one list of entries, or as one first bad line, and never as both
abbrev pub OneJournal : Type 0
OneJournal = (xs ys : List Entry) → AreEntries xs → AreEntries ys → journal_lines xs ≡ journal_lines ys → xs ≡ ys

abbrev pub OneBadLine : Type 0
OneBadLine = (bytes : List ℕ) (m n : ℕ) → IsFirstBadLine bytes m → IsFirstBadLine bytes n → m ≡ n

abbrev pub NoJournalWithBadLine : Type 0
NoJournalWithBadLine = (xs : List Entry) (line : ℕ) → AreEntries xs → IsFirstBadLine (journal_lines xs) line → ⊥

-- an entry isn't possible exactly where its task isn't there, is parked, has another number of local steps, or can't
-- take the step after them
abbrev pub IsImpossible : Limits → LowModule → Core → Entry → Option TaskLook → Type 0
IsImpossible l code c entry None = ⊤
IsImpossible l code c entry (Some seen) =
    (seen.parked ≡ true)
    ⊎ ((seen.local ≢ entry.local)
    ⊎ ((entry.local < longest_burst) × (step_within l code entry.task (burst_within l code longest_burst entry.task c).1 ≡ None)))

abbrev pub ImpossibleByCases : Type 0
ImpossibleByCases =
    (l : Limits) (code : LowModule) (c : Core) (entry : Entry) →
    (entry_within l code c entry ≡ None) ↔ (IsImpossible l code c entry (look l code c entry.task))

-- a journal is replayed to its end exactly where no entry is named
abbrev pub ReplayedOrNamed : Type 0
ReplayedOrNamed =
    (l : Limits) (code : LowModule) (k : ℕ) (journal : List Entry) (c : Core) →
    MatchOption (replay_within l code journal c) (IsSome (first_fault l code k journal c)) (λ after. first_fault l code k journal c ≡ None)

-- what is possible within limits is possible without them, and leads to the same state
abbrev pub EntriesWithinArePossible : Type 0
EntriesWithinArePossible =
    (l : Limits) (code : LowModule) (c next : Core) (entry : Entry) → entry_within l code c entry ≡ Some next → entry_after code c entry ≡ Some next

abbrev pub ReplaysWithinArePossible : Type 0
ReplaysWithinArePossible =
    (l : Limits) (code : LowModule) (journal : List Entry) (c last : Core) → replay_within l code journal c ≡ Some last → replay code journal c ≡ Some last
