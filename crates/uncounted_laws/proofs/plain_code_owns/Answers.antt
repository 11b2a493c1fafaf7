use Rattle.uncounted_laws.proofs.Whole.{plain_code_owns}
use Rattle.uncounted_laws.proofs.plain_code_owns.Goals as goal

pub returns : goal.returns
returns c = plain_code_owns
