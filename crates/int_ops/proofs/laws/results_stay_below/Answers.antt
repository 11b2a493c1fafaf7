use Rattle.int_ops.proofs.Results.{result-below}
use Rattle.int_ops.proofs.laws.results_stay_below.Goals as goal

pub returns : goal.returns
returns c = result-below
