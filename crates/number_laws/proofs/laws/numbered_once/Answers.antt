use Rattle.number_laws.proofs.Once.{numbered_once as law}
use Rattle.number_laws.proofs.laws.numbered_once.Goals as goal

pub returns : goal.returns
returns c = law
