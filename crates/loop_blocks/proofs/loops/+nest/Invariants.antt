use Rattle.std.proofs.Common.{length}
use Rattle.loop_blocks.proofs.loops.+nest.Given as goal

abbrev pub decreases-nest : goal.decreases-nest
decreases-nest l = length l.lowers.now
