use Rattle.check_laws.proofs.Whole.{checks_call_nothing as law}
use Rattle.check_laws.proofs.laws.checks_call_nothing.Goals as goal

pub returns : goal.returns
returns c = law
