use Rattle.std.proofs.Common.{◌≡◌, take, map, rc_value}
use Rattle.source_tasks.proofs.table.Table.share.Given as goal

-- the leaves so far
abbrev pub invariant-loop-leaf : goal.invariant-loop-leaf
invariant-loop-leaf l = map rc_value l.leaves.items ≡ map rc_value (take l.leaf-index l.leaf-items)
