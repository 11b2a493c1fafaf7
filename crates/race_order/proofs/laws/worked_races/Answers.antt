use Rattle.race_order.proofs.Worked.{worked_races as worked}
use Rattle.race_order.proofs.laws.worked_races.Goals as goal

pub returns : goal.returns
returns c = worked
