use Rattle.count_laws.proofs.RowLemmas.{rows_follow}
use Rattle.count_laws.proofs.rows_follow.Goals as goal

pub returns : goal.returns
returns c = rows_follow
