use Rattle.carry_laws.proofs.Renamed.{renamed_programs_agree as law}
use Rattle.carry_laws.proofs.laws.renamed_programs_agree.Goals as goal

pub returns : goal.returns
returns c = law
