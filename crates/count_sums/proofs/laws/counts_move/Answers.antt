use Rattle.count_sums.proofs.Sums.{counts_move}
use Rattle.count_sums.proofs.laws.counts_move.Goals as goal

pub returns : goal.returns
returns c = counts_move
