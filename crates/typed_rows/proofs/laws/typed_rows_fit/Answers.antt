use Rattle.typed_rows.proofs.Whole.{typed_rows_fit as law}
use Rattle.typed_rows.proofs.laws.typed_rows_fit.Goals as goal

pub returns : goal.returns
returns c = law
