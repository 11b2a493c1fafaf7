use Rattle.count_equation.proofs.Worked.{seven_is_equal}
use Rattle.count_equation.proofs.laws.seven_is_equal.Goals as goal

pub returns : goal.returns
returns c = seven_is_equal
