use Rattle.coro_carry.proofs.Suspending.{suspend_follows as law}
use Rattle.coro_carry.proofs.laws.suspend_follows.Goals as goal

pub returns : goal.returns
returns c = law
