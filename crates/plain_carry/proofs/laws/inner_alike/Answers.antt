use Rattle.plain_carry.proofs.Rows.{inner_alike as law}
use Rattle.plain_carry.proofs.laws.inner_alike.Goals as goal

pub returns : goal.returns
returns c = law
