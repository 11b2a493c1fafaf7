use Rattle.std.proofs.Common.{◌≡◌, ℕ, ◌-◌, length, map, rc_value}
use Rattle.source_tasks.specs.Table.{leaf_at}
use Rattle.source_tasks.proofs.table.grow.Given as goal

-- the leaves that were missing are empty
abbrev pub invariant-loop-alloc : goal.invariant-loop-alloc
invariant-loop-alloc l = (k : ℕ) → leaf_at (map rc_value l.leaves.items) k ≡ leaf_at (map rc_value l.initial.leaves.items) k

abbrev pub decreases-loop-alloc : goal.decreases-loop-alloc
decreases-loop-alloc l = l.len - length l.leaves.items
