use Rattle.coro_laws.proofs.Whole.{counts_stay_small as law}
use Rattle.coro_laws.proofs.laws.counts_stay_small.Goals as goal

pub returns : goal.returns
returns c = law
