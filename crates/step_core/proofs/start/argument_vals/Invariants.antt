use Rattle.std.proofs.Common.{◌≡◌, ◌≤◌, ◌++◌, drop}
use Rattle.step_core.specs.State.{argument_vals}
use Rattle.step_core.proofs.start.argument_vals.Given as goal

-- those of the arguments that are left are still to come
abbrev pub invariant-loop-arg : goal.invariant-loop-arg
invariant-loop-arg l = (l.vals.items ++ argument_vals l.buffer (drop l.arg-index l.args) ≡ argument_vals 0 l.args) × (l.buffer ≤ l.arg-index)
