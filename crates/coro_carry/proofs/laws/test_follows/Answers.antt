use Rattle.coro_carry.proofs.Testing.{test_follows as law}
use Rattle.coro_carry.proofs.laws.test_follows.Goals as goal

pub returns : goal.returns
returns c = law
