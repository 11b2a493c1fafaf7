use Rattle.coro_carry.proofs.Growing.{match_grows as law}
use Rattle.coro_carry.proofs.laws.match_grows.Goals as goal

pub returns : goal.returns
returns c = law
