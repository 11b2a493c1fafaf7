use Rattle.typed_rows.proofs.Whole.{typed_is_closed as law}
use Rattle.typed_rows.proofs.laws.typed_is_closed.Goals as goal

pub returns : goal.returns
returns c = law
