use Rattle.coro_carry.proofs.Covered.{covered_follows as law}
use Rattle.coro_carry.proofs.laws.covered_follows.Goals as goal

pub returns : goal.returns
returns c = law
