use Rattle.std.proofs.Common.{◌≡◌, ◌-◌, length, vec_capacity}
use Rattle.async_objects.specs.declared.kinds.Val.{Val}
use Rattle.task_stack.specs.Registers.{put}
use Rattle.task_stack.proofs.registers.pad.Given as goal

-- a value that is put at the length comes to the same
abbrev pub invariant-loop-values : goal.invariant-loop-values
invariant-loop-values l = record {
  same : (v : Val) → put l.values.items l.len v ≡ put l.initial.values.items l.len v;
  places : vec_capacity l.values ≡ vec_capacity l.initial.values;
}

abbrev pub decreases-loop-values : goal.decreases-loop-values
decreases-loop-values l = l.len - length l.values.items
