use Rattle.std.proofs.Common.{◌≡◌, ◌≤◌, drop}
use Rattle.ir_forms.specs.Shapes.{most_cells}
use Rattle.source_meaning.specs.Rows.{sizes}
use Rattle.task_stack.specs.Local.{operands}
use Rattle.step_core.specs.Shared.{numbers, all_within}
use Rattle.step_core.proofs.enabled_rows.are_small.Given as goal

-- the sizes so far are small, and as many operands were taken at most
abbrev pub invariant-loop-dim : goal.invariant-loop-dim
invariant-loop-dim l =
    (all_within most_cells (sizes (drop l.dim-index l.dims) (numbers (drop l.given (operands l.stack l.instr)))) ≡ all_within most_cells (sizes l.dims (numbers (operands l.stack l.instr))))
    × (l.given ≤ l.dim-index)
