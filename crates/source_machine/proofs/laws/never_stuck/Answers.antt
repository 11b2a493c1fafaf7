use Rattle.source_machine.proofs.Runs.{never_stuck as law}
use Rattle.source_machine.proofs.laws.never_stuck.Goals as goal

pub returns : goal.returns
returns c = law
