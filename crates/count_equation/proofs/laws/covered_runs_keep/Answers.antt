use Rattle.count_equation.proofs.AlongRuns.{covered_runs_keep}
use Rattle.count_equation.proofs.laws.covered_runs_keep.Goals as goal

pub returns : goal.returns
returns c = covered_runs_keep
