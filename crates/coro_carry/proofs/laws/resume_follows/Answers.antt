use Rattle.coro_carry.proofs.Resuming.{resume_follows as law}
use Rattle.coro_carry.proofs.laws.resume_follows.Goals as goal

pub returns : goal.returns
returns c = law
