use Rattle.std.proofs.Common.{◌≡◌, ◌++◌, drop}
use Rattle.liveness.proofs.solve.wait_all.Given as goal

abbrev pub invariant-loop-block : goal.invariant-loop-block
invariant-loop-block l = l.waiting.items ++ drop l.block-index l.blocks ≡ l.initial.waiting.items ++ l.blocks
