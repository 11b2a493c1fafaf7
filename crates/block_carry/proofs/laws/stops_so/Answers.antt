use Rattle.block_carry.proofs.Holding.{stops_so as law}
use Rattle.block_carry.proofs.laws.stops_so.Goals as goal

pub returns : goal.returns
returns c = law
