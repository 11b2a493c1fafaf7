use Rattle.check_insert.proofs.SoundLaw.{checked_is_sound as law}
use Rattle.check_insert.proofs.laws.checked_is_sound.Goals as goal

pub returns : goal.returns
returns c = law c.extended_is_sound.ensures c.numbered_is_sound.ensures
