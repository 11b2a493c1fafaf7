use Rattle.appended_laws.proofs.Behind.{appended_is_sound}
use Rattle.appended_laws.proofs.laws.appended_is_sound.Goals as goal

pub returns : goal.returns
returns c = appended_is_sound
