use Rattle.block_carry.proofs.Gathered.{adds_taken as law}
use Rattle.block_carry.proofs.laws.adds_taken.Goals as goal

pub returns : goal.returns
returns c = law
