use Rattle.ir_verify.proofs.LawLemmas.{operands_fit}
use Rattle.ir_verify.proofs.laws.operands_fit.Goals as goal

pub returns : goal.returns
returns c = operands_fit
