use Rattle.plain_rows.proofs.Awaits.{awaits_fit as law}
use Rattle.plain_rows.proofs.laws.awaits_fit.Goals as goal

pub returns : goal.returns
returns c = law
