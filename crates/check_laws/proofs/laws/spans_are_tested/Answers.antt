use Rattle.check_laws.proofs.Numbers.{spans_are_tested as law}
use Rattle.check_laws.proofs.laws.spans_are_tested.Goals as goal

pub returns : goal.returns
returns c = law
