use Rattle.composed_machines.proofs.Composed.{composed_keeps as law}
use Rattle.composed_machines.proofs.laws.composed_keeps.Goals as goal

pub returns : goal.returns
returns c = law
