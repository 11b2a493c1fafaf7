use Rattle.coro_laws.proofs.BlockFits.{fits_kept as law}
use Rattle.coro_laws.proofs.laws.fits_kept.Goals as goal

pub returns : goal.returns
returns c = law
