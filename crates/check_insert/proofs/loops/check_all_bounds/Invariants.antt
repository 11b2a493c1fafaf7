use Rattle.std.proofs.Common.{◌≡◌, drop}
use Rattle.check_insert.specs.Shape.{check_range, each}
use Rattle.check_insert.proofs.loops.check_all_bounds.Given as goal

abbrev pub invariant-loop-range : goal.invariant-loop-range
invariant-loop-range l = each (check_range l.text) (drop l.range-index l.ranges) l.made ≡ each (check_range l.text) l.ranges l.initial.made
