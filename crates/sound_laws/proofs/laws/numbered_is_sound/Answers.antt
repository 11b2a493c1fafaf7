use Rattle.sound_laws.proofs.Top.{numbered_is_sound as law}
use Rattle.sound_laws.proofs.laws.numbered_is_sound.Goals as goal

pub returns : goal.returns
returns c = law
