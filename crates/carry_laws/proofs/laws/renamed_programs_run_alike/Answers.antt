use Rattle.carry_laws.proofs.Law.{renamed_programs_run_alike as law}
use Rattle.carry_laws.proofs.laws.renamed_programs_run_alike.Goals as goal

pub returns : goal.returns
returns c = law
