use Rattle.outlined_types.proofs.Ends.{conditions_fit as law}
use Rattle.outlined_types.proofs.forms.conditions_fit.Goals as goal

pub returns : goal.returns
returns c = law
