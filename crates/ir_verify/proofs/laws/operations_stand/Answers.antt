use Rattle.ir_verify.proofs.LevelLemmas.{operations_stand}
use Rattle.ir_verify.proofs.laws.operations_stand.Goals as goal

pub returns : goal.returns
returns c = operations_stand
