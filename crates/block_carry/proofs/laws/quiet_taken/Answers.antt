use Rattle.block_carry.proofs.Taking.{quiet_taken as law}
use Rattle.block_carry.proofs.laws.quiet_taken.Goals as goal

pub returns : goal.returns
returns c = law
