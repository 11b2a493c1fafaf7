-- The steps of a burst are those that the core takes, one by one.
use Rattle.std.proofs.Common.{◌≡◌, false, true, ◌∙◌, arith}
use Rattle.run_journal.proofs.Running.{burst_at_shared, burst_refused, burst_next, burst_whole}
use Rattle.serial_run.proofs.driver.take_burst.Goals as goal

pub returns-then-not-next_is_local-clause-burst : goal.returns-then-not-next_is_local-clause-burst
returns-then-not-next_is_local-clause-burst c =
    let off : c.next_is_local.result ≡ false = let h = c.if-not-next_is_local.true in cc in
    burst_at_shared c.args.core.now c.loop-taken.core c.args.task.0 c.loop-taken.taken c.next_is_local.result c.loop-taken.invariant c.next_is_local.ensures off

pub returns-in-NotReady : goal.returns-in-NotReady
returns-in-NotReady c = record {
  same = (c.step.ensures.same.0 ∙ c.loop-taken.invariant.0, c.step.ensures.same.1 ∙ c.loop-taken.invariant.1);
  burst = burst_refused c.args.core.now c.loop-taken.core c.step.new.self c.args.task.0 c.loop-taken.taken c.in_ok-step.field-0 c.loop-taken.invariant c.in-NotReady.is c.in_ok-step.ensures.step;
}

pub loop-taken-preserved : goal.loop-taken-preserved
loop-taken-preserved c =
    let step = c.in_ok-step.ensures.step in
    let stepped = rw c.in-Stepped.is at step in
    let on : c.next_is_local.result ≡ true = let h = c.if-not-next_is_local.false in cc in
    burst_next c.args.core.now c.loop-taken.core c.step.new.self c.args.task.0 c.loop-taken.taken c.next_is_local.result c.loop-taken.invariant c.loop-taken-test.true c.next_is_local.ensures on stepped
    c.step.ensures.same

pub returns-clause-burst : goal.returns-clause-burst
returns-clause-burst c =
    burst_whole c.args.core.now c.loop-taken.core c.args.task.0 c.loop-taken.taken c.loop-taken.invariant (omega arith) (omega arith)
