use Rattle.carry_laws.proofs.Itself.{program_agrees_with_itself as law}
use Rattle.carry_laws.proofs.laws.program_agrees_with_itself.Goals as goal

pub returns : goal.returns
returns c = law
