use Rattle.code_machines.proofs.Worked.{worked_shows as law}
use Rattle.code_machines.proofs.laws.worked_shows.Goals as goal

pub returns : goal.returns
returns c = law
