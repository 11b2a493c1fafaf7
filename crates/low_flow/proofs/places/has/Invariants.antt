use Rattle.std.proofs.Common.{◌≡◌, drop}
use Rattle.low_flow.specs.Lists.{has}
use Rattle.low_flow.proofs.places.has.Given as goal

abbrev pub invariant-loop-member : goal.invariant-loop-member
invariant-loop-member l = has l.number (drop l.member-index l.list) ≡ has l.number l.list
