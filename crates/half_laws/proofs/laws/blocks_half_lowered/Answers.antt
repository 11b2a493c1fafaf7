use Rattle.half_laws.proofs.Whole.{blocks_half_lowered as law}
use Rattle.half_laws.proofs.laws.blocks_half_lowered.Goals as goal

pub returns : goal.returns
returns c = law
