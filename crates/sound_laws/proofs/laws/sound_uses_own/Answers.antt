use Rattle.sound_laws.proofs.Uses.{sound_uses_own as law}
use Rattle.sound_laws.proofs.laws.sound_uses_own.Goals as goal

pub returns : goal.returns
returns c = law
