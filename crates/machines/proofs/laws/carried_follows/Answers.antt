use Rattle.machines.proofs.Composes.{carried_follows as law}
use Rattle.machines.proofs.laws.carried_follows.Goals as goal

pub returns : goal.returns
returns g c = law g.M.Machines.one g.M.Machines.two
