use Rattle.check_laws.proofs.Numbered.{pass_has_results as law}
use Rattle.check_laws.proofs.laws.pass_has_results.Goals as goal

pub returns : goal.returns
returns c = law
