use Rattle.outline_laws.proofs.Tasks.{functions_found as law}
use Rattle.outline_laws.proofs.laws.functions_found.Goals as goal

pub returns : goal.returns
returns c = law
