use Rattle.block_carry.proofs.Taking.{creates_taken as law}
use Rattle.block_carry.proofs.laws.creates_taken.Goals as goal

pub returns : goal.returns
returns c = law
