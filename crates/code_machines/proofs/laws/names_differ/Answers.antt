use Rattle.code_machines.proofs.Naming.{names_differ as law}
use Rattle.code_machines.proofs.laws.names_differ.Goals as goal

pub returns : goal.returns
returns c = law
