use Rattle.composed_machines.proofs.Composed.{composed_refines as law}
use Rattle.composed_machines.proofs.laws.composed_refines.Goals as goal

pub returns : goal.returns
returns c = law
