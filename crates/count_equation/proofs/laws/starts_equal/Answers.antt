use Rattle.count_equation.proofs.Starts.{starts_equal}
use Rattle.count_equation.proofs.laws.starts_equal.Goals as goal

pub returns : goal.returns
returns c = starts_equal
