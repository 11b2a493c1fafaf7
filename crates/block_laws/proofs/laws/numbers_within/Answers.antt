use Rattle.block_laws.proofs.Within.{numbers_within as law}
use Rattle.block_laws.proofs.laws.numbers_within.Goals as goal

pub returns : goal.returns
returns c = law
