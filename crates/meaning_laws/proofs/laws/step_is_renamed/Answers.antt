use Rattle.meaning_laws.proofs.Renamed.{step_is_renamed as law}
use Rattle.meaning_laws.proofs.laws.step_is_renamed.Goals as goal

pub returns : goal.returns
returns c = law
