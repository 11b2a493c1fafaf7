use Rattle.std.proofs.Common.{◌≡◌, length}
use Rattle.async_objects.proofs.awaiters.spare_places.Given as goal

abbrev pub invariant-loop-turn : goal.invariant-loop-turn
invariant-loop-turn l = length l.spare ≡ l._turn
