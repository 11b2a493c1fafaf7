-- A task that is found is one more, and one that isn't is none.
use Rattle.std.proofs.Common.{◌∙◌, sym}
use Rattle.serial_run.proofs.Tables.{some_counted, none_counted}
use Rattle.serial_run.proofs.turns.live_tasks.Goals as goal
use Rattle.serial_run.proofs.turns.live_tasks.Goals.{then-is_some, else-is_some}

pub loop-task-preserved : goal.loop-task-preserved
loop-task-preserved c =
    elim c.if-is_some.branch [
      | then-is_some w ↦
          some_counted c.args.core.now.core.plain.tasks c.loop-task.task c.loop-task.live c.if-is_some.live c.task.result c.task.ensures
          (sym c.is_some.ensures ∙ w.if-is_some.true) c.loop-task.invariant w.live-is
      | else-is_some w ↦
          none_counted c.args.core.now.core.plain.tasks c.loop-task.task c.loop-task.live c.if-is_some.live c.task.result c.task.ensures
          (sym c.is_some.ensures ∙ w.if-is_some.false) c.loop-task.invariant w.live-is
    ]
