use Rattle.std.proofs.Common.{◌≡◌, ◌++◌, drop}
use Rattle.ref_counting.specs.Shape.{drops}
use Rattle.ref_counting.proofs.plan.Plan.push_drops.Given as goal

abbrev pub invariant-loop-number : goal.invariant-loop-number
invariant-loop-number l = l.instrs ++ drops l.self l.block l.row (drop l.number-index l.numbers) ≡ l.initial.instrs ++ drops l.self l.block l.row l.numbers
