use Rattle.row_carry.proofs.Creating.{create_follows as law}
use Rattle.row_carry.proofs.laws.create_follows.Goals as goal

pub returns : goal.returns
returns c = law
