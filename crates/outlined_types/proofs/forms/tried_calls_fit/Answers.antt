use Rattle.outlined_types.proofs.Launches.{tried_calls_fit as law}
use Rattle.outlined_types.proofs.forms.tried_calls_fit.Goals as goal

pub returns : goal.returns
returns c = law
