use Rattle.mlir_lex.proofs.Front.{read_back}
use Rattle.mlir_lex.proofs.read_back.Goals as goal

pub returns : goal.returns
returns c = read_back
