use Rattle.coro_carry.proofs.Backs.{return_follows as law}
use Rattle.coro_carry.proofs.laws.return_follows.Goals as goal

pub returns : goal.returns
returns c = law
