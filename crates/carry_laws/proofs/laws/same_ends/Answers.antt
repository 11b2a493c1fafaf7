use Rattle.carry_laws.proofs.Law.{same_ends as law}
use Rattle.carry_laws.proofs.laws.same_ends.Goals as goal

pub returns : goal.returns
returns c s = law c.A.Alike.like c.A.Alike.kept
