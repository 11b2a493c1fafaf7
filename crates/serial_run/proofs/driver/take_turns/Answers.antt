-- Each entry that is noted leads one step further, and what ends the run is its outcome.
use Rattle.std.proofs.Common.{arith, refl}
use Rattle.serial_run.proofs.Driving.{driven_starts, driven_next, driven_possible, noted_possible, out_finished, out_spent, out_idle, out_stuck, out_stopped, is_finished, is_unfinished, on_err}
use Rattle.serial_run.proofs.driver.take_turns.Goals as goal

pub loop-noted-init : goal.loop-noted-init
loop-noted-init c =
    driven_starts c.args.core.now c.args.journal.now.items c.requires.start c.requires.empty

pub returns-then-finished-clause-outcome : goal.returns-then-finished-clause-outcome
returns-then-finished-clause-outcome c =
    out_finished c.args.core.now c.loop-noted.core c.loop-noted.core c.loop-noted.journal.items c.loop-noted._noted c.loop-noted.invariant c.args.most
    (is_finished c.loop-noted.core.core c.finished.result c.finished.ensures c.if-finished.true) (omega arith)

pub returns-in_default-clause-outcome : goal.returns-in_default-clause-outcome
returns-in_default-clause-outcome c =
    out_idle c.args.core.now c.loop-noted.core c.loop-noted.core c.loop-noted.journal.items c.loop-noted._noted c.loop-noted.invariant c.args.most c.live_tasks.result
    (is_unfinished c.loop-noted.core.core c.finished.result c.finished.ensures c.if-finished.false) c.live_tasks.ensures c.in_default.ensures (omega arith)

pub returns-in_err-entry-clause-err : goal.returns-in_err-entry-clause-err
returns-in_err-entry-clause-err c =
    on_err c.from_residual.result _ (driven_possible c.args.core.now c.loop-noted.core c.loop-noted.core c.loop-noted.journal.items c.loop-noted._noted c.loop-noted.invariant c.loop-noted.journal.items refl)

pub returns-in_err-push-in-Taken-clause-err : goal.returns-in_err-push-in-Taken-clause-err
returns-in_err-push-in-Taken-clause-err c =
    on_err c.from_residual-in_err-push-in-Taken.result _ (driven_possible c.args.core.now c.loop-noted.core c.loop-noted.core c.loop-noted.journal.items c.loop-noted._noted c.loop-noted.invariant c.push.new.self.items c.in_err-push-in-Taken.ensures.items)

pub returns-in_err-queue_woken-in-Taken-clause-err : goal.returns-in_err-queue_woken-in-Taken-clause-err
returns-in_err-queue_woken-in-Taken-clause-err c =
    let turn = c.in_ok-entry.ensures.turn in
    let took = rw c.in-Taken.is at turn in
    on_err c.from_residual-in_err-queue_woken-in-Taken.result _
    (noted_possible c.args.core.now c.loop-noted.core c.take_turn.new.core c.loop-noted.journal.items c.loop-noted._noted c.loop-noted.invariant c.push.new.self.items c.in-Taken.entry c.in_ok-push-in-Taken.ensures.items took)

pub returns-in-Stopped-clause-outcome : goal.returns-in-Stopped-clause-outcome
returns-in-Stopped-clause-outcome c =
    let turn = c.in_ok-entry.ensures.turn in
    let stops = rw c.in-Stopped.is at turn in
    out_stopped c.args.core.now c.loop-noted.core c.take_turn.new.core c.loop-noted.journal.items c.loop-noted._noted c.loop-noted.invariant c.args.most c.in-Some.task.0 c.in-Stopped.limit
    (is_unfinished c.loop-noted.core.core c.finished.result c.finished.ensures c.if-finished.false) stops (omega arith)

pub returns-in-Stuck-clause-outcome : goal.returns-in-Stuck-clause-outcome
returns-in-Stuck-clause-outcome c =
    let turn = c.in_ok-entry.ensures.turn in
    let stuck = rw c.in-Stuck.is at turn in
    out_stuck c.args.core.now c.loop-noted.core c.take_turn.new.core c.loop-noted.journal.items c.loop-noted._noted c.loop-noted.invariant c.args.most c.live_tasks-in-Stuck.result c.in-Some.task.0
    (is_unfinished c.loop-noted.core.core c.finished.result c.finished.ensures c.if-finished.false) c.live_tasks-in-Stuck.ensures stuck (omega arith)

pub loop-noted-preserved : goal.loop-noted-preserved
loop-noted-preserved c =
    let turn = c.in_ok-entry.ensures.turn in
    let took = rw c.in-Taken.is at turn in
    driven_next c.args.core.now c.loop-noted.core c.take_turn.new.core c.loop-noted.journal.items c.loop-noted._noted c.loop-noted.invariant c.push.new.self.items c.in-Taken.entry c.in_ok-push-in-Taken.ensures.items c.in_ok-entry.ensures.same took

pub returns-then-finished-2-clause-outcome : goal.returns-then-finished-2-clause-outcome
returns-then-finished-2-clause-outcome c =
    out_finished c.args.core.now c.loop-noted.core c.loop-noted.core c.loop-noted.journal.items c.loop-noted._noted c.loop-noted.invariant c.args.most
    (is_finished c.loop-noted.core.core c.finished-2.result c.finished-2.ensures c.if-finished-2.true) (omega arith)

pub returns-else-finished-2-clause-outcome : goal.returns-else-finished-2-clause-outcome
returns-else-finished-2-clause-outcome c =
    out_spent c.args.core.now c.loop-noted.core c.loop-noted.core c.loop-noted.journal.items c.loop-noted._noted c.loop-noted.invariant c.args.most
    (is_unfinished c.loop-noted.core.core c.finished-2.result c.finished-2.ensures c.if-finished-2.false) (omega arith) (omega arith)
