use Rattle.agreeing_machines.proofs.Agreeing.{renamed_carry as law}
use Rattle.agreeing_machines.proofs.laws.renamed_carry.Goals as goal

pub returns : goal.returns
returns c = law
