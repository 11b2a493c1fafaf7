-- One more await.
use Rattle.std.proofs.Common.{[], refl, arith}
use Rattle.source_tasks.proofs.Puts.{each_pushed}
use Rattle.source_tasks.proofs.pending.awaits_each.Goals as goal

pub loop-i-preserved : goal.loop-i-preserved
loop-i-preserved c =
    each_pushed c.args.at c.args.env.now c.args.names.now c.loop-i.i c.loop-i.pending c.push.new.self c.in_ok-element.element [] (omega arith) c.loop-i.invariant
    (search c.in_ok-element.ensures) refl (search (c.in_ok-push.ensures.ok, c.waiting_for.ensures))
