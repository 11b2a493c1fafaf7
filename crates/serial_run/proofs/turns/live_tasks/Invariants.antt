use Rattle.std.proofs.Common.{◌≡◌, ◌≤◌, take}
use Rattle.step_core.specs.State.{live_tasks}
use Rattle.serial_run.proofs.turns.live_tasks.Given as goal

abbrev pub invariant-loop-task : goal.invariant-loop-task
invariant-loop-task l = (l.live ≡ live_tasks (take l.task l.core.core.plain.tasks)) × (l.live ≤ l.task)
