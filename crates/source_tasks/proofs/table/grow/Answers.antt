-- One more empty leaf behind a list that is too short.
use Rattle.std.proofs.Common.{rc_value, ◌∙◌}
use Rattle.source_tasks.proofs.Tables.{leaf_grown}
use Rattle.source_tasks.proofs.table.grow.Goals as goal

pub loop-alloc-preserved : goal.loop-alloc-preserved
loop-alloc-preserved c k =
    leaf_grown rc_value c.args.leaves.now.items c.loop-alloc.leaves.items c.push.new.self.items _ k (c.in_ok-leaf.ensures.ok ∙ c.new.ensures) (c.in_ok-push.ensures.items) (c.loop-alloc.invariant k)
