use Rattle.laid_ops.proofs.Laying.{suited_is_laid as law}
use Rattle.laid_ops.proofs.laws.suited_is_laid.Goals as goal

pub returns : goal.returns
returns c = law
