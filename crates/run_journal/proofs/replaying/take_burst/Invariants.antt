use Rattle.std.proofs.Common.{◌≡◌}
use Rattle.run_journal.proofs.Bursts.{IsBegun}
use Rattle.run_journal.proofs.replaying.take_burst.Given as goal

abbrev pub invariant-loop-taken : goal.invariant-loop-taken
invariant-loop-taken l =
    (l.core.code ≡ l.initial.core.code) × (l.core.limits ≡ l.initial.core.limits)
    × IsBegun l.initial.core.limits l.initial.core.code l.initial.core.core l.core.core l.task.0 l.taken
