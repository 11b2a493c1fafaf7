use Rattle.count_sums.proofs.Sums.{points_move}
use Rattle.count_sums.proofs.laws.points_move.Goals as goal

pub returns : goal.returns
returns c = points_move
