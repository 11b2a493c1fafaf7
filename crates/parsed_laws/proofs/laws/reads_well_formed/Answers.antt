use Rattle.parsed_laws.proofs.Forms.{reads_well_formed}
use Rattle.parsed_laws.proofs.laws.reads_well_formed.Goals as goal

pub returns : goal.returns
returns c = reads_well_formed
