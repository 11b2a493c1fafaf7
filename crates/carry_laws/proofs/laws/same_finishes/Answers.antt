use Rattle.carry_laws.proofs.Law.{same_finishes as law}
use Rattle.carry_laws.proofs.laws.same_finishes.Goals as goal

pub returns : goal.returns
returns c s = law c.A.Alike.like c.A.Alike.kept
