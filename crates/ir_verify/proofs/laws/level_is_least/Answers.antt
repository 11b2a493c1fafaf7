use Rattle.ir_verify.proofs.LevelLemmas.{level_is_least}
use Rattle.ir_verify.proofs.laws.level_is_least.Goals as goal

pub returns : goal.returns
returns c = level_is_least
