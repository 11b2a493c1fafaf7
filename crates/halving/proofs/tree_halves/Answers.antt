use Rattle.halving.proofs.Halved.{tree_is}
use Rattle.halving.proofs.tree_halves.Goals as goal

pub returns : goal.returns
returns c = tree_is
