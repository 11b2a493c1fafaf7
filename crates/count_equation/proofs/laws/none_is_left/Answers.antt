use Rattle.count_equation.proofs.Consequences.{none_is_left}
use Rattle.count_equation.proofs.laws.none_is_left.Goals as goal

pub returns : goal.returns
returns c = none_is_left
