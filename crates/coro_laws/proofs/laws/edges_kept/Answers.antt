use Rattle.coro_laws.proofs.Edging.{edges_kept as law}
use Rattle.coro_laws.proofs.laws.edges_kept.Goals as goal

pub returns : goal.returns
returns c = law
