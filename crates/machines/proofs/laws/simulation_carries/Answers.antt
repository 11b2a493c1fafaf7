use Rattle.machines.proofs.Simulated.{simulation_carries as law}
use Rattle.machines.proofs.laws.simulation_carries.Goals as goal

pub returns : goal.returns
returns g c = law g.R.Related.one g.R.Related.other g.R.Related.same
