use Rattle.coro_carry.proofs.PlainAwait.{wait_follows as law}
use Rattle.coro_carry.proofs.laws.wait_follows.Goals as goal

pub returns : goal.returns
returns c = law
