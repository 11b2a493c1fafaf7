use Rattle.row_carry.proofs.Ending.{ends_follow as law}
use Rattle.row_carry.proofs.laws.ends_follow.Goals as goal

pub returns : goal.returns
returns c = law
