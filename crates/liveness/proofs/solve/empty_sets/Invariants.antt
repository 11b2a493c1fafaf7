use Rattle.std.proofs.Common.{◌≡◌, replicate, false}
use Rattle.liveness.proofs.solve.empty_sets.Given as goal

abbrev pub invariant-loop-turn : goal.invariant-loop-turn
invariant-loop-turn l = l.sets.items ≡ replicate l._turn (replicate l.registers false)
