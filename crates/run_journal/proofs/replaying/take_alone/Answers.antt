-- A step is one more, and the count goes on behind it.
use Rattle.std.proofs.Common.{arith}
use Rattle.run_journal.proofs.Ahead.{halted, ahead_next, ahead_ends, ahead_whole}
use Rattle.run_journal.proofs.replaying.take_alone.Goals as goal

pub returns-in-Shared : goal.returns-in-Shared
returns-in-Shared c =
    ahead_ends c.args.code.now c.args.stack.now c.loop-taken.stack c.loop-taken.taken c.loop-taken.invariant
    (halted c.in_ok-local.field-0 _ _ _ c.in-Shared.is c.in_ok-local.ensures.step)

pub loop-taken-preserved : goal.loop-taken-preserved
loop-taken-preserved c =
    let step = c.in_ok-local.ensures.step in
    let done = rw c.in-Done.is at step in
    ahead_next c.args.code.now c.args.stack.now c.loop-taken.stack c.local.new.self c.in-Done.field-0 c.loop-taken.taken c.loop-taken.invariant c.loop-taken-test.true done

pub returns : goal.returns
returns c = ahead_whole c.args.code.now c.args.stack.now c.loop-taken.stack c.loop-taken.taken c.loop-taken.invariant (omega arith) (omega arith)
