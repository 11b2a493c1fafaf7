use Rattle.std.proofs.Common.{◌≡◌, ◌++◌, drop}
use Rattle.ref_counting.specs.Shape.{dropped_here}
use Rattle.ref_counting.proofs.plan.Plan.push_dropped.Given as goal

abbrev pub invariant-loop-number : goal.invariant-loop-number
invariant-loop-number l = l.instrs ++ dropped_here l.self l.block l.params l.others (drop l.number-index l.counted) ≡ l.initial.instrs ++ dropped_here l.self l.block l.params l.others l.counted
