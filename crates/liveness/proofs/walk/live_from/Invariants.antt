use Rattle.std.proofs.Common.{◌≡◌, drop}
use Rattle.liveness.specs.Flow.{live_before}
use Rattle.liveness.proofs.walk.live_from.Given as goal

abbrev pub invariant-loop-at : goal.invariant-loop-at
invariant-loop-at l = live_before (drop l.at l.block.instrs) l.block.term l.out l.number ≡ live_before (drop l.row l.block.instrs) l.block.term l.out l.number
