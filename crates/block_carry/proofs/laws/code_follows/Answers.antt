use Rattle.block_carry.proofs.Whole.{code_follows as law}
use Rattle.block_carry.proofs.laws.code_follows.Goals as goal

pub returns : goal.returns
returns c = law
