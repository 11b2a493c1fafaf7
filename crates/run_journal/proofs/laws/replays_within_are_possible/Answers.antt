use Rattle.run_journal.proofs.Entries.{replays_within_are_possible}
use Rattle.run_journal.proofs.laws.replays_within_are_possible.Goals as goal

pub returns : goal.returns
returns _ = replays_within_are_possible
