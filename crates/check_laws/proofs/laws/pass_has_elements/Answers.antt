use Rattle.check_laws.proofs.Elements.{pass_has_elements as law}
use Rattle.check_laws.proofs.laws.pass_has_elements.Goals as goal

pub returns : goal.returns
returns c = law
