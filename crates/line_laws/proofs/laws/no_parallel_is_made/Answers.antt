use Rattle.line_laws.proofs.NoneMade.{structured_none}
use Rattle.line_laws.proofs.laws.no_parallel_is_made.Goals as goal

pub returns : goal.returns
returns c = structured_none
