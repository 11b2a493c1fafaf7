use Rattle.suited_ops.proofs.Whole.{sound_is_laid as law}
use Rattle.suited_ops.proofs.laws.sound_is_laid.Goals as goal

pub returns : goal.returns
returns c = law
