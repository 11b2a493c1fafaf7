use Rattle.carry_laws.proofs.Law.{same_meaning as law}
use Rattle.carry_laws.proofs.laws.same_meaning.Goals as goal

pub returns : goal.returns
returns c s = law c.A.Alike.like c.A.Alike.kept
