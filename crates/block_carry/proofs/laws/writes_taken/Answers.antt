use Rattle.block_carry.proofs.Taking.{writes_taken as law}
use Rattle.block_carry.proofs.laws.writes_taken.Goals as goal

pub returns : goal.returns
returns c = law
