use Rattle.block_carry.proofs.Holding.{quiet_holds as law}
use Rattle.block_carry.proofs.laws.quiet_holds.Goals as goal

pub returns : goal.returns
returns c = law
