use Rattle.check_laws.proofs.Numbers.{quotient_is_tested as law}
use Rattle.check_laws.proofs.laws.quotient_is_tested.Goals as goal

pub returns : goal.returns
returns c = law
