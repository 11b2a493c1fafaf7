use Rattle.meaning_laws.proofs.MoreFuel.{more_fuel_is_the_same as law}
use Rattle.meaning_laws.proofs.laws.more_fuel_is_the_same.Goals as goal

pub returns : goal.returns
returns c = law
