use Rattle.laid_blocks.proofs.Placing.{blocks_are_placed as law}
use Rattle.laid_blocks.proofs.laws.blocks_are_placed.Goals as goal

pub returns : goal.returns
returns c = law
