use Rattle.check_insert.proofs.SoundLaw.{checked_has_level as law}
use Rattle.check_insert.proofs.laws.checked_has_level.Goals as goal

pub returns : goal.returns
returns c = law c.extended_has_level.ensures c.numbered_has_level.ensures
