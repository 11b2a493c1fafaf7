use Rattle.typed_laws.proofs.Typings.{elements_fit as law}
use Rattle.typed_laws.proofs.laws.elements_fit.Goals as goal

pub returns : goal.returns
returns c = law
