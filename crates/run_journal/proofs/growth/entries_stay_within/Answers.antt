use Rattle.run_journal.proofs.Entries.{entries_stay_within}
use Rattle.run_journal.proofs.growth.entries_stay_within.Goals as goal

pub returns : goal.returns
returns _ = entries_stay_within
