use Rattle.outlined_types.proofs.Ends.{ends_fit as law}
use Rattle.outlined_types.proofs.forms.ends_fit.Goals as goal

pub returns : goal.returns
returns c = law
