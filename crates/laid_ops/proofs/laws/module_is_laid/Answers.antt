use Rattle.laid_ops.proofs.Whole.{module_is_laid as law}
use Rattle.laid_ops.proofs.laws.module_is_laid.Goals as goal

pub returns : goal.returns
returns c = law
