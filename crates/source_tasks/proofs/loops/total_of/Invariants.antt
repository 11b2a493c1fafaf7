use Rattle.std.proofs.Common.{◌≡◌, ◌≤◌, drop}
use Rattle.source_meaning.specs.Rows.{turns_of, product_from, product_within, most_elements}
use Rattle.source_tasks.proofs.loops.total_of.Given as goal

-- the product so far, and that of the dimensions that are left
abbrev pub invariant-loop-span : goal.invariant-loop-span
invariant-loop-span l =
    (l.total ≤ most_elements) × (product_from most_elements l.total (turns_of (drop l.span-index l.spans)) ≡ product_within most_elements (turns_of l.spans))
