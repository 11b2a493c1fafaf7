use Rattle.sound_laws.proofs.Top.{numbered_has_level as law}
use Rattle.sound_laws.proofs.laws.numbered_has_level.Goals as goal

pub returns : goal.returns
returns c = law
