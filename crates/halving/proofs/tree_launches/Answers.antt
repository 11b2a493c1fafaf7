use Rattle.halving.proofs.Halved.{tree_launched}
use Rattle.halving.proofs.tree_launches.Goals as goal

pub returns : goal.returns
returns c = tree_launched
