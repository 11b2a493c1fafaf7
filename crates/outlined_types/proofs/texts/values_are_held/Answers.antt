use Rattle.outlined_types.proofs.InOrder.{values_are_held as law}
use Rattle.outlined_types.proofs.texts.values_are_held.Goals as goal

pub returns : goal.returns
returns c = law
