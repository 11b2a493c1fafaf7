use Rattle.outlined_types.proofs.Structures.{tested_loops_fit as law}
use Rattle.outlined_types.proofs.forms.tested_loops_fit.Goals as goal

pub returns : goal.returns
returns c = law
