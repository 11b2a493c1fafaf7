use Rattle.block_carry.proofs.Over.{launches_taken as law}
use Rattle.block_carry.proofs.laws.launches_taken.Goals as goal

pub returns : goal.returns
returns c = law
