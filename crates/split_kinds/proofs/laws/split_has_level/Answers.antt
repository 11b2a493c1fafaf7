use Rattle.split_kinds.proofs.Whole.{split_has_level}
use Rattle.split_kinds.proofs.laws.split_has_level.Goals as goal

pub returns : goal.returns
returns c = split_has_level
