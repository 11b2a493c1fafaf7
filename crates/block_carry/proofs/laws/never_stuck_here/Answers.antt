use Rattle.block_carry.proofs.Fine.{never_stuck_here as law}
use Rattle.block_carry.proofs.laws.never_stuck_here.Goals as goal

pub returns : goal.returns
returns c = law
