use Rattle.order_laws.proofs.Same.{one_end_in_any_order as law}
use Rattle.order_laws.proofs.laws.one_end_in_any_order.Goals as goal

pub returns : goal.returns
returns c = law
