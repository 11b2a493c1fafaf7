use Rattle.coro_carry.proofs.Entering.{start_agrees as law}
use Rattle.coro_carry.proofs.laws.start_agrees.Goals as goal

pub returns : goal.returns
returns c = law
