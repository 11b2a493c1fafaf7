use Rattle.suited_ops.proofs.Whole.{sound_is_suited as law}
use Rattle.suited_ops.proofs.laws.sound_is_suited.Goals as goal

pub returns : goal.returns
returns c = law
