use Rattle.outlined_types.proofs.LaunchSteps.{launches_typed as law}
use Rattle.outlined_types.proofs.steps.launches_typed.Goals as goal

pub returns : goal.returns
returns c = law
