use Rattle.row_carry.proofs.RootEnd.{root_end_follows as law}
use Rattle.row_carry.proofs.laws.root_end_follows.Goals as goal

pub returns : goal.returns
returns c = law
