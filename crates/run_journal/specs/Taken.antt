-- What became of an entry.
use Rattle.std.specs.Prelude.{◌≡◌, Some, None}
use Rattle.low_forms.specs.declared.code.LowModule.{LowModule}
use Rattle.step_core.specs.declared.ends.Entry.{Entry}
use Rattle.step_core.specs.declared.limits.Limits.{Limits}
use Rattle.step_core.specs.Core.{Core}
use Rattle.run_journal.specs.Within.{entry_within}
use Rattle.run_journal.specs.Replay.{look}
use Rattle.run_journal.specs.declared.replaying.Taken.{Taken}
use Rattle.run_journal.specs.declared.replaying.Taken.TheVariants.{Possible, Refused}

-- the entry was taken from the first state to the second, or isn't possible in the first, which has this of its task
abbrev pub IsTaken : Taken → Limits → LowModule → Core → Core → Entry → Type 0
IsTaken Possible l code old new entry = entry_within l code old entry ≡ Some new
IsTaken (Refused kept) l code old new entry = (entry_within l code old entry ≡ None) × (kept ≡ look l code old entry.task)
