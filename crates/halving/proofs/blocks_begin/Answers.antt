use Rattle.halving.proofs.Covered.{block_begun}
use Rattle.halving.proofs.blocks_begin.Goals as goal

pub returns : goal.returns
returns c = block_begun
