use Rattle.checked_machines.proofs.Checked.{pass_carries as law}
use Rattle.checked_machines.proofs.laws.pass_carries.Goals as goal

pub returns : goal.returns
returns c = law
