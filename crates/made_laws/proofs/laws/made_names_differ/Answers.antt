use Rattle.made_laws.proofs.Free.{made_names_differ as law}
use Rattle.made_laws.proofs.laws.made_names_differ.Goals as goal

pub returns : goal.returns
returns c = law
