use Rattle.count_equation.proofs.JumpKeeps.{branches_keep}
use Rattle.count_equation.proofs.laws.branches_keep.Goals as goal

pub returns : goal.returns
returns c = branches_keep
