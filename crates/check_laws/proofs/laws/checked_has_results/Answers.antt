use Rattle.check_laws.proofs.Ahead.{checked_has_results as law}
use Rattle.check_laws.proofs.laws.checked_has_results.Goals as goal

pub returns : goal.returns
returns c = law
