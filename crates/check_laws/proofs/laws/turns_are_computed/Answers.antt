use Rattle.check_laws.proofs.Turns.{turns_are_computed as law}
use Rattle.check_laws.proofs.laws.turns_are_computed.Goals as goal

pub returns : goal.returns
returns c = law
