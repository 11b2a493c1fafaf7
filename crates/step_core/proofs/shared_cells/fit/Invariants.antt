use Rattle.std.proofs.Common.{◌≡◌, take, drop}
use Rattle.ir_forms.specs.Shapes.{most_cells}
use Rattle.step_core.specs.Shared.{all_within}
use Rattle.step_core.proofs.shared_cells.fit.Given as goal

-- the sizes so far, and the test of those that are left
abbrev pub invariant-loop-size : goal.invariant-loop-size
invariant-loop-size l = (l.dims ≡ take l.size-index l.sizes) × (all_within most_cells (drop l.size-index l.sizes) ≡ all_within most_cells l.sizes)
