use Rattle.appended_laws.proofs.Behind.{appended_stays_fine}
use Rattle.appended_laws.proofs.laws.appended_stays_fine.Goals as goal

pub returns : goal.returns
returns c = appended_stays_fine
