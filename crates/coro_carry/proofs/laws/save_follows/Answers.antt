use Rattle.coro_carry.proofs.Saving.{save_follows as law}
use Rattle.coro_carry.proofs.laws.save_follows.Goals as goal

pub returns : goal.returns
returns c = law
