use Rattle.block_carry.proofs.Roots.{root_stands as law}
use Rattle.block_carry.proofs.laws.root_stands.Goals as goal

pub returns : goal.returns
returns c = law
