use Rattle.check_laws.proofs.Numbers.{product_is_tested as law}
use Rattle.check_laws.proofs.laws.product_is_tested.Goals as goal

pub returns : goal.returns
returns c = law
