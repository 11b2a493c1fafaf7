use Rattle.block_laws.proofs.Splits.{edges_split as law}
use Rattle.block_laws.proofs.laws.edges_split.Goals as goal

pub returns : goal.returns
returns c = law
