use Rattle.count_sums.proofs.Sums.{writes_keep}
use Rattle.count_sums.proofs.laws.writes_keep.Goals as goal

pub returns : goal.returns
returns c = writes_keep
