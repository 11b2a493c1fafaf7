use Rattle.order_laws.proofs.Same.{finished_runs_agree as law}
use Rattle.order_laws.proofs.laws.finished_runs_agree.Goals as goal

pub returns : goal.returns
returns c = law
