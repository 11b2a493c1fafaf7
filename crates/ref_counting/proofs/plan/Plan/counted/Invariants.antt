use Rattle.std.proofs.Common.{◌≡◌, ◌++◌, drop}
use Rattle.ref_counting.specs.Objects.{counted_from, counted}
use Rattle.ref_counting.proofs.plan.Plan.counted.Given as goal

abbrev pub invariant-loop-number : goal.invariant-loop-number
invariant-loop-number l = l.list.items ++ counted_from l.self l.number (drop l.number l.self.regs) ≡ counted l.self
