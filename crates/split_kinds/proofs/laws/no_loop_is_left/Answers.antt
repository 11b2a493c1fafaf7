use Rattle.split_kinds.proofs.Whole.{no_loop_is_left}
use Rattle.split_kinds.proofs.laws.no_loop_is_left.Goals as goal

pub returns : goal.returns
returns c = no_loop_is_left
