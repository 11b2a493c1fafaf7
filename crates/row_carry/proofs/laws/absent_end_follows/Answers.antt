use Rattle.row_carry.proofs.Absent.{absent_end_follows as law}
use Rattle.row_carry.proofs.laws.absent_end_follows.Goals as goal

pub returns : goal.returns
returns c = law
