use Rattle.checked_machines.proofs.Checked.{strictly_carries as law}
use Rattle.checked_machines.proofs.laws.strictly_carries.Goals as goal

pub returns : goal.returns
returns c = law
