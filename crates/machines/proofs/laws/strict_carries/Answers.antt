use Rattle.machines.proofs.Strict.{strict_carries as law}
use Rattle.machines.proofs.laws.strict_carries.Goals as goal

pub returns : goal.returns
returns g c = law g.N.Needing.one g.N.Needing.needs
