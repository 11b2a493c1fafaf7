use Rattle.outlined_types.proofs.Structures.{choices_fit as law}
use Rattle.outlined_types.proofs.forms.choices_fit.Goals as goal

pub returns : goal.returns
returns c = law
