use Rattle.std.proofs.Common.{◌≡◌, ◌≤◌, ◌++◌, drop}
use Rattle.step_core.specs.State.{argument_buffers}
use Rattle.step_core.proofs.start.argument_buffers.Given as goal

-- those of the parameters that are left are still to come
abbrev pub invariant-loop-place : goal.invariant-loop-place
invariant-loop-place l = (l.buffers ++ argument_buffers l.func l.place l.buffer (drop l.place l.func.params) (drop l.place l.args) ≡ argument_buffers l.func 0 0 l.func.params l.args) × (l.buffer ≤ l.place)
