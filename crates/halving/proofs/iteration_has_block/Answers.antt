use Rattle.halving.proofs.Covered.{has_block}
use Rattle.halving.proofs.iteration_has_block.Goals as goal

pub returns : goal.returns
returns c = has_block
