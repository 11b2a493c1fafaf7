use Rattle.check_laws.proofs.Guarded.{insertion_decides as law}
use Rattle.check_laws.proofs.laws.insertion_decides.Goals as goal

pub returns : goal.returns
returns c = law
