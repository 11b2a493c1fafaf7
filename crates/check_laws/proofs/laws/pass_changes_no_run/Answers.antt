use Rattle.check_laws.proofs.Pass.{pass_changes_no_run as law}
use Rattle.check_laws.proofs.laws.pass_changes_no_run.Goals as goal

pub returns : goal.returns
returns c = law
