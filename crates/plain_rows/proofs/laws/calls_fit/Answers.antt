use Rattle.plain_rows.proofs.Calls.{calls_fit as law}
use Rattle.plain_rows.proofs.laws.calls_fit.Goals as goal

pub returns : goal.returns
returns c = law
