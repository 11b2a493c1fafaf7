use Rattle.block_carry.proofs.Taking.{reads_taken as law}
use Rattle.block_carry.proofs.laws.reads_taken.Goals as goal

pub returns : goal.returns
returns c = law
