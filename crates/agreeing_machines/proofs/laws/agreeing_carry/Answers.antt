use Rattle.agreeing_machines.proofs.Agreeing.{agreeing_carry as law}
use Rattle.agreeing_machines.proofs.laws.agreeing_carry.Goals as goal

pub returns : goal.returns
returns g c = law g.A.Alike.like g.A.Alike.kept
