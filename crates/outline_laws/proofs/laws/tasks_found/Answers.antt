use Rattle.outline_laws.proofs.Tasks.{tasks_found as law}
use Rattle.outline_laws.proofs.laws.tasks_found.Goals as goal

pub returns : goal.returns
returns c = law
