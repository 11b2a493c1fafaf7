use Rattle.std.proofs.Common.{◌≡◌, ◌+◌, drop}
use Rattle.ref_counting.specs.Order.{place}
use Rattle.ref_counting.proofs.order.place.Given as goal

abbrev pub invariant-loop-at : goal.invariant-loop-at
invariant-loop-at l = l.at + place l.number (drop l.at l.list) ≡ place l.number l.list
