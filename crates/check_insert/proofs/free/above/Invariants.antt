use Rattle.std.proofs.Common.{◌≡◌, drop, max}
use Rattle.check_insert.specs.Shape.{above}
use Rattle.check_insert.proofs.free.above.Given as goal

abbrev pub invariant-loop-value : goal.invariant-loop-value
invariant-loop-value l = max l.most (above (drop l.value-index l.values)) ≡ max l.least (above l.values)
