use Rattle.closed_laws.proofs.Whole.{typed_code_well_formed as law}
use Rattle.closed_laws.proofs.laws.typed_code_well_formed.Goals as goal

pub returns : goal.returns
returns c = law
