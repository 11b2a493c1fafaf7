use Rattle.halving.proofs.Covered.{has_one_block}
use Rattle.halving.proofs.iteration_has_one_block.Goals as goal

pub returns : goal.returns
returns c = has_one_block
