use Rattle.line_loops.proofs.Whole.{lowered_has_no_loop}
use Rattle.line_loops.proofs.laws.lowered_has_no_loop.Goals as goal

pub returns : goal.returns
returns c = lowered_has_no_loop c.checked_is_sound.ensures c.no_loop_is_left.ensures
