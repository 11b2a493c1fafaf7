use Rattle.block_carry.proofs.Gathered.{awaits_all_taken as law}
use Rattle.block_carry.proofs.laws.awaits_all_taken.Goals as goal

pub returns : goal.returns
returns c = law
