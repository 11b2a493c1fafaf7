use Rattle.row_carry.proofs.Rows.{rows_follow as law}
use Rattle.row_carry.proofs.laws.rows_follow.Goals as goal

pub returns : goal.returns
returns c = law
