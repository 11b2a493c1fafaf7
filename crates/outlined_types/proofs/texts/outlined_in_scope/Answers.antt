use Rattle.outlined_types.proofs.InScope.{outlined_in_scope as law}
use Rattle.outlined_types.proofs.texts.outlined_in_scope.Goals as goal

pub returns : goal.returns
returns c = law
