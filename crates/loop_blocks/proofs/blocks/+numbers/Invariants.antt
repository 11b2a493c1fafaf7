use Rattle.std.proofs.Common.{length}
use Rattle.loop_blocks.proofs.blocks.+numbers.Given as goal

abbrev pub decreases-numbers : goal.decreases-numbers
decreases-numbers l = length l.turns.now
