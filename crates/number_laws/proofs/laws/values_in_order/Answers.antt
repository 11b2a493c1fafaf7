use Rattle.number_laws.proofs.InOrder.{values_in_order as law}
use Rattle.number_laws.proofs.laws.values_in_order.Goals as goal

pub returns : goal.returns
returns c = law
