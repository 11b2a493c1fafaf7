use Rattle.one_end.proofs.Law.{law}
use Rattle.one_end.proofs.laws.one_end.Goals as goal

pub returns : goal.returns
returns g c = law _ _
