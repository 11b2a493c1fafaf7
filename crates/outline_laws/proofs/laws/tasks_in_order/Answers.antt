use Rattle.outline_laws.proofs.Tasks.{tasks_in_order as law}
use Rattle.outline_laws.proofs.laws.tasks_in_order.Goals as goal

pub returns : goal.returns
returns c = law
