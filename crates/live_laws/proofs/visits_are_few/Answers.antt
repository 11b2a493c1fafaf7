use Rattle.live_laws.proofs.FewLemmas.{visits_are_few}
use Rattle.live_laws.proofs.visits_are_few.Goals as goal

pub returns : goal.returns
returns c = visits_are_few
