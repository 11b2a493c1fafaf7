use Rattle.outlined_types.proofs.TaskFunctions.{tasks_typed as law}
use Rattle.outlined_types.proofs.tasks.tasks_typed.Goals as goal

pub returns : goal.returns
returns c = law
