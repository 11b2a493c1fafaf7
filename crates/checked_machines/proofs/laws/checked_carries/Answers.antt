use Rattle.checked_machines.proofs.Checked.{checked_carries as law}
use Rattle.checked_machines.proofs.laws.checked_carries.Goals as goal

pub returns : goal.returns
returns c = law
