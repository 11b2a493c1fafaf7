use Rattle.std.proofs.Common.{refl}
use Rattle.ir_verify.proofs.LevelLemmas.{is_known, level_is_structured}
use Rattle.ir_verify.proofs.laws.level_is_structured.Goals as goal

pub returns : goal.returns
returns c = level_is_structured (c.lists_each_kind.ensures is_known refl)
