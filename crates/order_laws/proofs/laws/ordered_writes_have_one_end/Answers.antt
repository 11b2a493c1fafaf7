use Rattle.order_laws.proofs.Rows.{ordered_writes_have_one_end as law}
use Rattle.order_laws.proofs.laws.ordered_writes_have_one_end.Goals as goal

pub returns : goal.returns
returns c = law
