use Rattle.plain_carry.proofs.Rows.{computed_alike as law}
use Rattle.plain_carry.proofs.laws.computed_alike.Goals as goal

pub returns : goal.returns
returns c = law
