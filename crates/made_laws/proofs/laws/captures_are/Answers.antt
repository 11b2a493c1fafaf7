use Rattle.made_laws.proofs.Captures.{captures_are as law}
use Rattle.made_laws.proofs.laws.captures_are.Goals as goal

pub returns : goal.returns
returns c = law
