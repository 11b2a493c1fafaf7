use Rattle.mlir_lex.proofs.Whole.{one_kind}
use Rattle.mlir_lex.proofs.one_kind.Goals as goal

pub returns : goal.returns
returns c = one_kind
