use Rattle.std.proofs.Common.{◌≡◌, ◌++◌, drop}
use Rattle.ref_counting.specs.Shape.{counted_blocks}
use Rattle.ref_counting.proofs.plan.Plan.counted_blocks.Given as goal

abbrev pub invariant-loop-at : goal.invariant-loop-at
invariant-loop-at l = l.blocks ++ counted_blocks l.self l.at (drop l.at l.self.blocks) ≡ counted_blocks l.self 0 l.self.blocks
