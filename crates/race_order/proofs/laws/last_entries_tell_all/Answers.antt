use Rattle.race_order.proofs.Last.{last_tells_all}
use Rattle.race_order.proofs.laws.last_entries_tell_all.Goals as goal

pub returns : goal.returns
returns c = last_tells_all
