use Rattle.block_carry.proofs.Over.{root_gave_taken as law}
use Rattle.block_carry.proofs.laws.root_gave_taken.Goals as goal

pub returns : goal.returns
returns c = law
