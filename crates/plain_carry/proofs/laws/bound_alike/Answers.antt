use Rattle.plain_carry.proofs.Values.{bound_alike as law}
use Rattle.plain_carry.proofs.laws.bound_alike.Goals as goal

pub returns : goal.returns
returns c = law
