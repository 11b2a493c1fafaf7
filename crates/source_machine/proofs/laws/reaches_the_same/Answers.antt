use Rattle.source_machine.proofs.Runs.{reaches_the_same as law}
use Rattle.source_machine.proofs.laws.reaches_the_same.Goals as goal

pub returns : goal.returns
returns c = law
