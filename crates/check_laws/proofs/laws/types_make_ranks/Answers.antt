use Rattle.check_laws.proofs.Kept.{types_make_ranks as law}
use Rattle.check_laws.proofs.laws.types_make_ranks.Goals as goal

pub returns : goal.returns
returns c = law
