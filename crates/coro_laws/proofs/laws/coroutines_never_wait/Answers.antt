use Rattle.coro_laws.proofs.Counting.{coroutines_never_wait as law}
use Rattle.coro_laws.proofs.laws.coroutines_never_wait.Goals as goal

pub returns : goal.returns
returns c = law
