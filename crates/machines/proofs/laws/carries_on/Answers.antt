use Rattle.machines.proofs.Composes.{carries_on as law}
use Rattle.machines.proofs.laws.carries_on.Goals as goal

pub returns : goal.returns
returns g c = law g.M.Machines.one g.M.Machines.two g.M.Machines.three
