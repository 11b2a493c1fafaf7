use Rattle.coro_laws.proofs.Labels.{labels_stand as law}
use Rattle.coro_laws.proofs.laws.labels_stand.Goals as goal

pub returns : goal.returns
returns c = law
