use Rattle.halving.proofs.Halved.{tree_covered}
use Rattle.halving.proofs.tree_covers.Goals as goal

pub returns : goal.returns
returns c = tree_covered
