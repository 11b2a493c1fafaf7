use Rattle.step_core.proofs.Worked.{worked_runs as law}
use Rattle.step_core.proofs.laws.worked_runs.Goals as goal

pub returns : goal.returns
returns c = law
