use Rattle.std.proofs.Common.{◌≡◌, replicate}
use Rattle.step_core.proofs.shared_cells.zeros.Given as goal

abbrev pub invariant-loop-turn : goal.invariant-loop-turn
invariant-loop-turn l = l.cells ≡ replicate l._turn 0
