use Rattle.outlined_code.proofs.Whole.{accepted_code_well_formed as law}
use Rattle.outlined_code.proofs.laws.accepted_code_well_formed.Goals as goal

pub returns : goal.returns
returns c = law
