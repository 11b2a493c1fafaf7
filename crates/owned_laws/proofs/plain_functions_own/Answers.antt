use Rattle.owned_laws.proofs.Whole.{plain_functions_own}
use Rattle.owned_laws.proofs.plain_functions_own.Goals as goal

pub returns : goal.returns
returns c = plain_functions_own
