use Rattle.std.proofs.Common.{◌≡◌, ◌++◌, drop}
use Rattle.source_tasks.specs.Uses.{uses_under_op, uses_in, uses_held, uses_along}
use Rattle.source_tasks.proofs.uses.+uses.Given as goal

abbrev pub invariant-note_op-loop-region : goal.invariant-note_op-loop-region
invariant-note_op-loop-region l = l.uses ++ uses_held (drop l.region-index l.region-items) ≡ l.fn.uses ++ uses_under_op l.op

abbrev pub invariant-note_region-loop-op : goal.invariant-note_region-loop-op
invariant-note_region-loop-op l = l.uses ++ uses_along (drop l.op-index l.op-items) ≡ l.fn.uses ++ uses_in l.region
