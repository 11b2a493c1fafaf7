use Rattle.coro_carry.proofs.Branching.{branch_follows as law}
use Rattle.coro_carry.proofs.laws.branch_follows.Goals as goal

pub returns : goal.returns
returns c = law
