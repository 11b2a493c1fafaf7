use Rattle.count_equation.proofs.Consequences.{gone_is_unowned}
use Rattle.count_equation.proofs.laws.gone_is_unowned.Goals as goal

pub returns : goal.returns
returns c = gone_is_unowned
