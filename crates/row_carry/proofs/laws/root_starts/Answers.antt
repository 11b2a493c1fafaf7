use Rattle.row_carry.proofs.Rooting.{root_starts as law}
use Rattle.row_carry.proofs.laws.root_starts.Goals as goal

pub returns : goal.returns
returns c = law
