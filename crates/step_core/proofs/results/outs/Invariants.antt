use Rattle.std.proofs.Common.{◌≡◌, map, take}
use Rattle.step_core.specs.Cells.{of_type}
use Rattle.step_core.proofs.results.outs.Given as goal

abbrev pub invariant-loop-bits : goal.invariant-loop-bits
invariant-loop-bits l = l.outs ≡ map (λ n. of_type l.ty n) (take l.bits-index l.cells)
