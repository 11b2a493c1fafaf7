use Rattle.coro_carry.proofs.Inner.{inner_follows as law}
use Rattle.coro_carry.proofs.laws.inner_follows.Goals as goal

pub returns : goal.returns
returns c = law
