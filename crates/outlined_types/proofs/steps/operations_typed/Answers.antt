use Rattle.outlined_types.proofs.Operations.{operations_typed as law}
use Rattle.outlined_types.proofs.steps.operations_typed.Goals as goal

pub returns : goal.returns
returns c = law
