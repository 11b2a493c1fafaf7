use Rattle.halving.proofs.Covered.{block_followed}
use Rattle.halving.proofs.blocks_follow.Goals as goal

pub returns : goal.returns
returns c = block_followed
