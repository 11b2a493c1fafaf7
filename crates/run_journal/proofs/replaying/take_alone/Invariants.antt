use Rattle.run_journal.proofs.Ahead.{IsAhead}
use Rattle.run_journal.proofs.replaying.take_alone.Given as goal

abbrev pub invariant-loop-taken : goal.invariant-loop-taken
invariant-loop-taken l = IsAhead l.code l.initial.stack l.stack l.taken
