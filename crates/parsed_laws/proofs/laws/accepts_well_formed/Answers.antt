use Rattle.parsed_laws.proofs.Numbered.{accepts_well_formed}
use Rattle.parsed_laws.proofs.laws.accepts_well_formed.Goals as goal

pub returns : goal.returns
returns c = accepts_well_formed c.numbers_alone.ensures
