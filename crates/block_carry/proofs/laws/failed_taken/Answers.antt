use Rattle.block_carry.proofs.Over.{failed_taken as law}
use Rattle.block_carry.proofs.laws.failed_taken.Goals as goal

pub returns : goal.returns
returns c = law
