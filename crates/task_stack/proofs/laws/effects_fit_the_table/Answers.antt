use Rattle.task_stack.proofs.Worked.{effects_fit as law}
use Rattle.task_stack.proofs.laws.effects_fit_the_table.Goals as goal

pub returns : goal.returns
returns c = law
