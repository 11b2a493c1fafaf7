use Rattle.live_truths.proofs.TruthLemmas.{exact}
use Rattle.live_truths.proofs.truths_are_exact.Goals as goal

pub returns : goal.returns
returns c = exact
