-- The burst and the step after it are those of the turn.
use Rattle.run_journal.proofs.Running.{burst_room}
use Rattle.serial_run.proofs.Turning.{run_stepped, run_stopped, run_stuck}
use Rattle.serial_run.proofs.driver.take_turn.Goals as goal

pub step_waking-requires-clause-steps : goal.step_waking-requires-clause-steps
step_waking-requires-clause-steps c = (burst_room c.args.core.now c.take_burst.new.core c.args.task.0 c.in_ok-local.local c.requires.room c.in_ok-local.ensures.burst).0

pub step_waking-requires-clause-tasks : goal.step_waking-requires-clause-tasks
step_waking-requires-clause-tasks c = (burst_room c.args.core.now c.take_burst.new.core c.args.task.0 c.in_ok-local.local c.requires.room c.in_ok-local.ensures.burst).1

pub step_waking-requires-clause-objects : goal.step_waking-requires-clause-objects
step_waking-requires-clause-objects c = (burst_room c.args.core.now c.take_burst.new.core c.args.task.0 c.in_ok-local.local c.requires.room c.in_ok-local.ensures.burst).2

pub step_waking-requires-clause-buffers : goal.step_waking-requires-clause-buffers
step_waking-requires-clause-buffers c = (burst_room c.args.core.now c.take_burst.new.core c.args.task.0 c.in_ok-local.local c.requires.room c.in_ok-local.ensures.burst).3

pub returns-in-Stepped-clause-turn : goal.returns-in-Stepped-clause-turn
returns-in-Stepped-clause-turn c =
    let answer = c.in_ok-step_waking.ensures.step in
    let stepped = rw c.in-Stepped.is at answer in
    run_stepped c.args.core.now c.take_burst.new.core c.step_waking.new.self c.args.task.0 c.in_ok-local.local c.in_ok-local.ensures.burst c.take_burst.ensures.same
    c.args.turns.now.woken.items c.step_waking.new.woken.items c.if-local-eq-LONGEST_BURST.false stepped

pub returns-in-Stop-clause-turn : goal.returns-in-Stop-clause-turn
returns-in-Stop-clause-turn c =
    let answer = c.in_ok-step_waking.ensures.step in
    let stopped = rw c.in-Stop.is at answer in
    run_stopped c.args.core.now c.take_burst.new.core c.step_waking.new.self c.args.task.0 c.in_ok-local.local c.in_ok-local.ensures.burst c.take_burst.ensures.same
    c.args.turns.now.woken.items c.step_waking.new.woken.items c.in-Stop.limit c.if-local-eq-LONGEST_BURST.false stopped

pub returns-in-NotReady-clause-turn : goal.returns-in-NotReady-clause-turn
returns-in-NotReady-clause-turn c =
    let answer = c.in_ok-step_waking.ensures.step in
    let refused = rw c.in-NotReady.is at answer in
    run_stuck c.args.core.now c.take_burst.new.core c.step_waking.new.self c.args.task.0 c.in_ok-local.local c.in_ok-local.ensures.burst c.take_burst.ensures.same
    c.args.turns.now.woken.items c.step_waking.new.woken.items c.requires.ready c.if-local-eq-LONGEST_BURST.false refused
