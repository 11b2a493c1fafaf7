use Rattle.block_laws.proofs.Whole.{well_formed_if_fits as law}
use Rattle.block_laws.proofs.laws.well_formed_if_fits.Goals as goal

pub returns : goal.returns
returns c = law
