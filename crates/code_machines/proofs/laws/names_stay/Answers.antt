use Rattle.code_machines.proofs.Naming.{names_stay as law}
use Rattle.code_machines.proofs.laws.names_stay.Goals as goal

pub returns : goal.returns
returns c = law
