use Rattle.coro_carry.proofs.Loading.{load_follows as law}
use Rattle.coro_carry.proofs.laws.load_follows.Goals as goal

pub returns : goal.returns
returns c = law
