use Rattle.std.proofs.Common.{◌≡◌, ◌≤◌, take, drop}
use Rattle.ir_forms.specs.Shapes.{most_cells}
use Rattle.source_meaning.specs.Rows.{product_from, product_within}
use Rattle.source_tasks.proofs.sizes.fit_sizes.Given as goal

-- the sizes so far and their product, and the sizes that are left
abbrev pub invariant-loop-size : goal.invariant-loop-size
invariant-loop-size l =
    (l.dims ≡ take l.size-index l.sizes) × (l.cells ≤ most_cells)
    × (product_from most_cells l.cells (drop l.size-index l.sizes) ≡ product_within most_cells l.sizes)
