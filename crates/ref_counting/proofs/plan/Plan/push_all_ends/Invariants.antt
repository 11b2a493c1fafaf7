use Rattle.std.proofs.Common.{◌≡◌, ◌++◌, drop}
use Rattle.ref_counting.specs.Shape.{ends}
use Rattle.ref_counting.proofs.plan.Plan.push_all_ends.Given as goal

abbrev pub invariant-loop-number : goal.invariant-loop-number
invariant-loop-number l = l.instrs ++ ends l.self l.targets l.returns l.taken (drop l.number-index l.numbers) ≡ l.initial.instrs ++ ends l.self l.targets l.returns l.taken l.numbers
