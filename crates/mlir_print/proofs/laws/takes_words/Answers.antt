use Rattle.mlir_print.proofs.Taking.{takes}
use Rattle.mlir_print.proofs.laws.takes_words.Goals as goal

pub returns : goal.returns
returns c = takes
