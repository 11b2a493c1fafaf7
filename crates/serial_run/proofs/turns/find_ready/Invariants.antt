use Rattle.std.proofs.Common.{ℕ, ◌<◌}
use Rattle.step_core.specs.Tasks.{IsIdle}
use Rattle.serial_run.proofs.turns.find_ready.Given as goal

-- none of the tasks before this one is ready
abbrev pub invariant-loop-task : goal.invariant-loop-task
invariant-loop-task l = (t : ℕ) → t < l.task → IsIdle l.core.core.plain.tasks t
