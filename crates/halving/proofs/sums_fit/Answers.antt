use Rattle.halving.proofs.Covered.{sums_fit}
use Rattle.halving.proofs.sums_fit.Goals as goal

pub returns : goal.returns
returns c = sums_fit
