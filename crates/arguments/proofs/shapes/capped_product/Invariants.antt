use Rattle.std.proofs.Common.{◌≡◌, ◌+◌, ◌*◌, ◌≤◌, min, drop}
use Rattle.ir_forms.specs.Shapes.{product, most_cells}
use Rattle.arguments.proofs.shapes.capped_product.Given as goal

-- the product of those so far, kept below the limit, and those to come make the whole
abbrev pub invariant-loop-dim : goal.invariant-loop-dim
invariant-loop-dim l =
    (l.cells ≤ most_cells + 1) × (min (l.cells * product (drop l.dim-index l.dims)) (most_cells + 1) ≡ min (product l.dims) (most_cells + 1))
