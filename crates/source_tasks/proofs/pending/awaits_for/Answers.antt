-- One more await.
use Rattle.std.proofs.Common.{arith}
use Rattle.source_tasks.proofs.Puts.{for_pushed}
use Rattle.source_tasks.specs.Numbers.{param_names}
use Rattle.source_tasks.proofs.pending.awaits_for.Goals as goal

pub loop-i-preserved : goal.loop-i-preserved
loop-i-preserved c =
    for_pushed c.args.at c.args.env.now c.args.params.now c.args.names.now c.loop-i.i c.loop-i.pending c.push.new.self c.in_ok-element.element (param_names c.param_at-param.result) (omega arith) c.loop-i.invariant
    (search c.in_ok-element.ensures) (search c.param_at-param.ensures) (search (c.in_ok-push.ensures.ok, c.waiting_for.ensures))
