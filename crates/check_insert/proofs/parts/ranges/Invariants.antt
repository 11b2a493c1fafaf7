use Rattle.std.proofs.Common.{◌≡◌, ◌++◌, drop}
use Rattle.check_insert.specs.Shape.{ranges}
use Rattle.check_insert.proofs.parts.ranges.Given as goal

abbrev pub invariant-loop-at : goal.invariant-loop-at
invariant-loop-at l =
    l.list ++ ranges (drop l.at l.lowers) (drop l.at l.uppers) (drop l.at l.steps) ≡ ranges l.lowers l.uppers l.steps
