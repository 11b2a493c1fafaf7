use Rattle.block_laws.proofs.Calm.{none_saved as law}
use Rattle.block_laws.proofs.laws.none_saved.Goals as goal

pub returns : goal.returns
returns c = law
