use Rattle.count_equation.proofs.Keeps.{covered_keeps}
use Rattle.count_equation.proofs.laws.covered_keeps.Goals as goal

pub returns : goal.returns
returns c = covered_keeps
