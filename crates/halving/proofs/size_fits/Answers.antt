use Rattle.halving.proofs.Covered.{size_fit}
use Rattle.halving.proofs.size_fits.Goals as goal

pub returns : goal.returns
returns c = size_fit
