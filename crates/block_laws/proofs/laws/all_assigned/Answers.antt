use Rattle.block_laws.proofs.Flow.{all_assigned as law}
use Rattle.block_laws.proofs.laws.all_assigned.Goals as goal

pub returns : goal.returns
returns c = law
