use Rattle.laid_blocks.proofs.Placing.{module_is_placed as law}
use Rattle.laid_blocks.proofs.laws.module_is_placed.Goals as goal

pub returns : goal.returns
returns c = law
