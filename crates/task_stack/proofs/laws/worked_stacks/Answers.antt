use Rattle.task_stack.proofs.Worked.{worked_stacks as law}
use Rattle.task_stack.proofs.laws.worked_stacks.Goals as goal

pub returns : goal.returns
returns c = law
