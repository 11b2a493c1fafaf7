use Rattle.coro_carry.proofs.Jumps.{jump_follows as law}
use Rattle.coro_carry.proofs.laws.jump_follows.Goals as goal

pub returns : goal.returns
returns c = law
