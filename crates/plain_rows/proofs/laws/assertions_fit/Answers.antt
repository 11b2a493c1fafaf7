use Rattle.plain_rows.proofs.Awaits.{assertions_fit as law}
use Rattle.plain_rows.proofs.laws.assertions_fit.Goals as goal

pub returns : goal.returns
returns c = law
