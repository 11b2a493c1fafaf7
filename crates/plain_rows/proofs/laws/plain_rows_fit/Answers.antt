use Rattle.plain_rows.proofs.Whole.{plain_rows_fit as law}
use Rattle.plain_rows.proofs.laws.plain_rows_fit.Goals as goal

pub returns : goal.returns
returns c = law
