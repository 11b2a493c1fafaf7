use Rattle.plain_carry.proofs.Values.{operands_alike as law}
use Rattle.plain_carry.proofs.laws.operands_alike.Goals as goal

pub returns : goal.returns
returns c = law
