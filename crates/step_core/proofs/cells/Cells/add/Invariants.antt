use Rattle.std.proofs.Common.{◌≡◌, ◌++◌, drop}
use Rattle.step_core.specs.State.{argument_cells}
use Rattle.step_core.proofs.cells.Cells.add.Given as goal

-- those of the arguments that are left are still to come
abbrev pub invariant-loop-arg : goal.invariant-loop-arg
invariant-loop-arg l = l.self.buffers ++ argument_cells (drop l.arg-index l.args) ≡ l.initial.self.buffers ++ argument_cells l.args
