use Rattle.line_laws.proofs.Stand.{functions_stand}
use Rattle.line_laws.proofs.laws.functions_stand.Goals as goal

pub returns : goal.returns
returns c = functions_stand c.checked_is_sound.ensures
