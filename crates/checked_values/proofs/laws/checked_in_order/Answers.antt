use Rattle.checked_values.proofs.InOrder.{checked_in_order as law}
use Rattle.checked_values.proofs.laws.checked_in_order.Goals as goal

pub returns : goal.returns
returns c = law c.values_in_order.ensures
