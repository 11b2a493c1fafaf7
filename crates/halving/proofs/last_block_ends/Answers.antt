use Rattle.halving.proofs.Covered.{last_ended}
use Rattle.halving.proofs.last_block_ends.Goals as goal

pub returns : goal.returns
returns c = last_ended
