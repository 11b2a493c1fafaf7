use Rattle.count_equation.proofs.Consequences.{owned_is_there}
use Rattle.count_equation.proofs.laws.owned_is_there.Goals as goal

pub returns : goal.returns
returns c = owned_is_there
