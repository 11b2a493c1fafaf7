use Rattle.run_journal.proofs.Entries.{entries_within_are_possible}
use Rattle.run_journal.proofs.laws.entries_within_are_possible.Goals as goal

pub returns : goal.returns
returns _ = entries_within_are_possible
