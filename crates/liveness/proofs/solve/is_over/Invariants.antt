use Rattle.std.proofs.Common.{◌≡◌, drop}
use Rattle.liveness.specs.Flow.{over}
use Rattle.liveness.proofs.solve.is_over.Given as goal

abbrev pub invariant-loop-block : goal.invariant-loop-block
invariant-loop-block l = over l.sets l.number (drop l.block-index l.blocks) ≡ over l.sets l.number l.blocks
