use Rattle.coro_carry.proofs.Calls.{call_follows as law}
use Rattle.coro_carry.proofs.laws.call_follows.Goals as goal

pub returns : goal.returns
returns c = law
