use Rattle.check_laws.proofs.Whole.{checks_change_no_run as law}
use Rattle.check_laws.proofs.laws.checks_change_no_run.Goals as goal

pub returns : goal.returns
returns c = law
