use Rattle.outlined_types.proofs.Structures.{loops_fit as law}
use Rattle.outlined_types.proofs.forms.loops_fit.Goals as goal

pub returns : goal.returns
returns c = law
