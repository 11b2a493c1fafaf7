use Rattle.outlined_types.proofs.CalledFunctions.{called_are_found as law}
use Rattle.outlined_types.proofs.texts.called_are_found.Goals as goal

pub returns : goal.returns
returns c = law
