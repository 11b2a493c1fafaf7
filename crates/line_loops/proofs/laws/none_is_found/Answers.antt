use Rattle.line_loops.proofs.Whole.{none_is_found}
use Rattle.line_loops.proofs.laws.none_is_found.Goals as goal

pub returns : goal.returns
returns c = none_is_found
