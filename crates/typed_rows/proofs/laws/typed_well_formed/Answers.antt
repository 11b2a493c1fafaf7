use Rattle.typed_rows.proofs.Whole.{typed_well_formed as law}
use Rattle.typed_rows.proofs.laws.typed_well_formed.Goals as goal

pub returns : goal.returns
returns c = law
