use Rattle.coro_laws.proofs.Counting.{coroutines_stay as law}
use Rattle.coro_laws.proofs.laws.coroutines_stay.Goals as goal

pub returns : goal.returns
returns c = law
