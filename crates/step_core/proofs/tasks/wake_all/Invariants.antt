use Rattle.std.proofs.Common.{◌≡◌, drop, vec_len, vec_capacity}
use Rattle.step_core.specs.State.{live_tasks, woken}
use Rattle.step_core.proofs.tasks.wake_all.Given as goal

abbrev pub invariant-loop-task : goal.invariant-loop-task
invariant-loop-task l = record {
  woken : woken (drop l.task-index l.tasks) l.slots.items ≡ woken l.tasks l.initial.slots.items;
  live : live_tasks l.slots.items ≡ live_tasks l.initial.slots.items;
  capacity : vec_capacity l.slots ≡ vec_capacity l.initial.slots;
  len : vec_len l.slots ≡ vec_len l.initial.slots;
}
