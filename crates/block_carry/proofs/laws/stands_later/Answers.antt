use Rattle.block_carry.proofs.Stays.{later_stands as law}
use Rattle.block_carry.proofs.laws.stands_later.Goals as goal

pub returns : goal.returns
returns c = law
