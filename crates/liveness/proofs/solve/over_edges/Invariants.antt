use Rattle.std.proofs.Common.{◌≡◌, length, replicate, false, drop}
use Rattle.liveness.specs.Flow.{joined}
use Rattle.liveness.proofs.solve.over_edges.Given as goal

abbrev pub invariant-loop-block : goal.invariant-loop-block
invariant-loop-block l = record {
  long : length l.set ≡ l.registers;
  joins : joined l.sets (drop l.block-index l.blocks) l.set ≡ joined l.sets l.blocks (replicate l.registers false);
}
