use Rattle.outlined_types.proofs.Launches.{launches_fit as law}
use Rattle.outlined_types.proofs.forms.launches_fit.Goals as goal

pub returns : goal.returns
returns c = law
