use Rattle.std.proofs.Common.{◌≡◌, drop}
use Rattle.low_flow.specs.Lists.{has}
use Rattle.ref_counting.proofs.objects.has.Given as goal

abbrev pub invariant-loop-other : goal.invariant-loop-other
invariant-loop-other l = has l.number (drop l.other-index l.list) ≡ has l.number l.list
