use Rattle.coro_laws.proofs.Whole.{runtime_well_formed as law}
use Rattle.coro_laws.proofs.laws.runtime_well_formed.Goals as goal

pub returns : goal.returns
returns c = law
