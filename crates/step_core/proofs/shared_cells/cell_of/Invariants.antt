use Rattle.std.proofs.Common.{◌≡◌, ℕ, drop, length}
use Rattle.source_meaning.specs.Rows.{cell_from}
use Rattle.task_stack.specs.Local.{operands}
use Rattle.step_core.specs.Shared.{numbers}
use Rattle.step_core.specs.Parts.{capped}
use Rattle.step_core.proofs.shared_cells.cell_of.Given as goal

-- the number so far, and the sizes and indices that are left
abbrev pub invariant-loop-dim : goal.invariant-loop-dim
invariant-loop-dim l =
    (n : ℕ) × (l.cell ≡ capped n) × (cell_from n l.left (numbers (drop l.at (operands l.stack l.instr))) ≡ cell_from 0 l.dims (numbers (drop l.first (operands l.stack l.instr))))

abbrev pub decreases-loop-dim : goal.decreases-loop-dim
decreases-loop-dim l = length l.left
