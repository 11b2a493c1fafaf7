use Rattle.uncounted_laws.proofs.Whole.{plain_code_uncounted}
use Rattle.uncounted_laws.proofs.plain_code_uncounted.Goals as goal

pub returns : goal.returns
returns c = plain_code_uncounted
