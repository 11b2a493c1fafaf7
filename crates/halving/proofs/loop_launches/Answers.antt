use Rattle.halving.proofs.Halved.{loop_is}
use Rattle.halving.proofs.loop_launches.Goals as goal

pub returns : goal.returns
returns c = loop_is
