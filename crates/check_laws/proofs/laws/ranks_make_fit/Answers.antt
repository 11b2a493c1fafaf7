use Rattle.check_laws.proofs.Pass.{ranks_make_fit as law}
use Rattle.check_laws.proofs.laws.ranks_make_fit.Goals as goal

pub returns : goal.returns
returns c = law
