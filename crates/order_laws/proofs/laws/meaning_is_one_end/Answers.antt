use Rattle.order_laws.proofs.Meant.{meaning_is_one_end as law}
use Rattle.order_laws.proofs.laws.meaning_is_one_end.Goals as goal

pub returns : goal.returns
returns c = law
