use Rattle.outlined_types.proofs.InOrder.{text_counts_on as law}
use Rattle.outlined_types.proofs.texts.text_counts_on.Goals as goal

pub returns : goal.returns
returns c = law
