use Rattle.std.proofs.Common.{◌≡◌, drop}
use Rattle.ref_counting.specs.Shape.{is_live_over}
use Rattle.ref_counting.proofs.plan.Plan.is_live_over.Given as goal

abbrev pub invariant-loop-block : goal.invariant-loop-block
invariant-loop-block l = is_live_over l.self l.number (drop l.block-index l.blocks) ≡ is_live_over l.self l.number l.blocks
