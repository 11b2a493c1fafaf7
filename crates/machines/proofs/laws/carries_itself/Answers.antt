use Rattle.machines.proofs.Composes.{carries_itself as law}
use Rattle.machines.proofs.laws.carries_itself.Goals as goal

pub returns : goal.returns
returns g c = law g.M.Machines.one
