use Rattle.block_carry.proofs.Taking.{allocs_taken as law}
use Rattle.block_carry.proofs.laws.allocs_taken.Goals as goal

pub returns : goal.returns
returns c = law
