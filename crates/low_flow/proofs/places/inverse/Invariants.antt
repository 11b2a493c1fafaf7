use Rattle.std.proofs.Common.{◌≡◌, [], replicate, drop}
use Rattle.low_flow.specs.Lists.{with_lists}
use Rattle.low_flow.proofs.places.inverse.Given as goal

abbrev pub invariant-loop-place : goal.invariant-loop-place
invariant-loop-place l = with_lists l.place (drop l.place l.lists) l.inverse.items ≡ with_lists 0 l.lists (replicate l.len [])
