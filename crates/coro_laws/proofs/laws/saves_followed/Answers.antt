use Rattle.coro_laws.proofs.Saving.{saves_followed_law as law}
use Rattle.coro_laws.proofs.laws.saves_followed.Goals as goal

pub returns : goal.returns
returns c = law
