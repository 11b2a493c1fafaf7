use Rattle.run_journal.proofs.Entries.{starts_are_within}
use Rattle.run_journal.proofs.growth.starts_are_within.Goals as goal

pub returns : goal.returns
returns _ = starts_are_within
