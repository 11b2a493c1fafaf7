use Rattle.std.proofs.Common.{◌≡◌, ◌*◌, ◌≤◌, ◌^◌, min, drop}
use Rattle.ir_forms.specs.Shapes.{product}
use Rattle.step_core.proofs.shared_cells.count_of.Given as goal

-- the product of those so far, kept below the limit, and those to come make the whole
abbrev pub invariant-loop-dim : goal.invariant-loop-dim
invariant-loop-dim l = (l.cells ≤ 2 ^ 32) × (min (l.cells * product (drop l.dim-index l.dims)) (2 ^ 32) ≡ min (product l.dims) (2 ^ 32))
