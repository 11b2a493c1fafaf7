use Rattle.std.proofs.Common.{◌≡◌, ℕ, length}
use Rattle.source_meaning.specs.Values.{values_at}
use Rattle.source_meaning.specs.Rows.{cell_from}
use Rattle.source_meaning.specs.Steps.{numbers}
use Rattle.source_tasks.specs.Numbers.{capped}
use Rattle.source_tasks.proofs.sizes.cell_of.Given as goal

-- the number so far, and the indices that are left
abbrev pub invariant-loop-dim : goal.invariant-loop-dim
invariant-loop-dim l =
    (n : ℕ) × (l.cell ≡ capped n) × (cell_from n l.dims (numbers (values_at l.env l.indices)) ≡ cell_from 0 l.initial.dims (numbers (values_at l.env l.initial.indices)))

abbrev pub decreases-loop-dim : goal.decreases-loop-dim
decreases-loop-dim l = length l.dims
