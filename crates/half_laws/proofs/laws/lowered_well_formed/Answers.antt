use Rattle.half_laws.proofs.Whole.{lowered_well_formed as law}
use Rattle.half_laws.proofs.laws.lowered_well_formed.Goals as goal

pub returns : goal.returns
returns c = law
