use Rattle.outlined_code.proofs.Whole.{outlined_typed as law}
use Rattle.outlined_code.proofs.laws.outlined_typed.Goals as goal

pub returns : goal.returns
returns c = law
