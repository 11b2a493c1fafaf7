use Rattle.register_laws.proofs.Law.{types_stay as law}
use Rattle.register_laws.proofs.laws.types_stay.Goals as goal

pub returns : goal.returns
returns c = law
