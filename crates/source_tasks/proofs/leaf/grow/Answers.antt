-- One more number 0 behind a list that is too short.
use Rattle.std.proofs.Common.{arith}
use Rattle.source_tasks.proofs.Puts.{put_grown}
use Rattle.source_tasks.proofs.leaf.grow.Goals as goal

pub loop-values-preserved : goal.loop-values-preserved
loop-values-preserved c v =
    put_grown c.args.values.now.items c.loop-values.values.items c.push.new.self.items c.args.len v (c.loop-values.invariant v) (omega arith) (search (c.in_ok-push.ensures.items, c.of_number.ensures))
