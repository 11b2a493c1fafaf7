use Rattle.check_laws.proofs.Safe.{operations_have_results as law}
use Rattle.check_laws.proofs.laws.operations_have_results.Goals as goal

pub returns : goal.returns
returns c = law
