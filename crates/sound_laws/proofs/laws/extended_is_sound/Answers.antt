use Rattle.sound_laws.proofs.Sound.{extended_is_sound as law}
use Rattle.sound_laws.proofs.laws.extended_is_sound.Goals as goal

pub returns : goal.returns
returns c = law
