use Rattle.block_carry.proofs.Over.{gave_taken as law}
use Rattle.block_carry.proofs.laws.gave_taken.Goals as goal

pub returns : goal.returns
returns c = law
