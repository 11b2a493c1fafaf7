use Rattle.serial_run.proofs.Driving.{Driven}
use Rattle.serial_run.proofs.driver.take_turns.Given as goal

-- the journal so far leads to this state
abbrev pub invariant-loop-noted : goal.invariant-loop-noted
invariant-loop-noted l = Driven l.initial.core l.core l.journal.items l._noted
