use Rattle.std.proofs.Common.{◌≡◌, ◌≤◌, length}
use Rattle.async_objects.specs.Reserved.{grown}
use Rattle.async_objects.proofs.awaiters.wake.Given as goal

-- what is left to be woken, and that it has places
abbrev pub invariant-loop-task : goal.invariant-loop-task
invariant-loop-task l = (grown l.task-iterator l.woken ≡ grown l.initial.task-iterator l.initial.woken) × (length l.task-iterator ≤ l.woken.room)
