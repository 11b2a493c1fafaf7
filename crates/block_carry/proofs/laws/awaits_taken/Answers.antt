use Rattle.block_carry.proofs.Looking.{awaits_taken as law}
use Rattle.block_carry.proofs.laws.awaits_taken.Goals as goal

pub returns : goal.returns
returns c = law
