use Rattle.race_order.proofs.FirstRace.{first_race_tells}
use Rattle.race_order.proofs.laws.first_race_is_exact.Goals as goal

pub returns : goal.returns
returns c = first_race_tells
