use Rattle.register_laws.proofs.Law.{renumbered_well_formed as law}
use Rattle.register_laws.proofs.laws.renumbered_well_formed.Goals as goal

pub returns : goal.returns
returns c = law
