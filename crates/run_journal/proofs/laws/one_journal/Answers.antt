use Rattle.run_journal.proofs.LineLemmas.{one_journal}
use Rattle.run_journal.proofs.laws.one_journal.Goals as goal

pub returns : goal.returns
returns _ = one_journal
