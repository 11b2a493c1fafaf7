use Rattle.std.proofs.Common.{◌≡◌, [], drop}
use Rattle.check_insert.specs.Shape.{check_turns}
use Rattle.check_insert.proofs.loops.check_turns.Given as goal

abbrev pub invariant-loop-range : goal.invariant-loop-range
invariant-loop-range l = check_turns l.text l.all (drop l.range-index l.ranges) l.made ≡ check_turns l.text [] l.ranges l.initial.made
