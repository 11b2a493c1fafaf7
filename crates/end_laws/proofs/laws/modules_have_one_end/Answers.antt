use Rattle.end_laws.proofs.ModuleLaw.{functions_are_programs}
use Rattle.end_laws.proofs.laws.modules_have_one_end.Goals as goal

pub returns : goal.returns
returns c = functions_are_programs
