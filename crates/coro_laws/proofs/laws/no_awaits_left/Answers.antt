use Rattle.coro_laws.proofs.Counting.{no_awaits_left as law}
use Rattle.coro_laws.proofs.laws.no_awaits_left.Goals as goal

pub returns : goal.returns
returns c = law
