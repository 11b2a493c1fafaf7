use Rattle.run_journal.proofs.Running.{Begun}
use Rattle.serial_run.proofs.driver.take_burst.Given as goal

abbrev pub invariant-loop-taken : goal.invariant-loop-taken
invariant-loop-taken l = Begun l.initial.core l.core l.task.0 l.taken
