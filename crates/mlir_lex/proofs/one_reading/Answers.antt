use Rattle.mlir_lex.proofs.Means.{one_reading}
use Rattle.mlir_lex.proofs.one_reading.Goals as goal

pub returns : goal.returns
returns c = one_reading
