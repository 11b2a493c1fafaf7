use Rattle.line_loops.proofs.Whole.{tasks_bring_none}
use Rattle.line_loops.proofs.laws.tasks_bring_none.Goals as goal

pub returns : goal.returns
returns c = tasks_bring_none
