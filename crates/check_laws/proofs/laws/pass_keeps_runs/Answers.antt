use Rattle.check_laws.proofs.Kept.{pass_keeps_runs as law}
use Rattle.check_laws.proofs.laws.pass_keeps_runs.Goals as goal

pub returns : goal.returns
returns c = law
