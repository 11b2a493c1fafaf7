use Rattle.row_carry.proofs.Rooting.{root_stays as law}
use Rattle.row_carry.proofs.laws.root_stays.Goals as goal

pub returns : goal.returns
returns c = law
