use Rattle.std.proofs.Common.{◌≡◌}
use Rattle.run_journal.proofs.Entries.{IsReplayed}
use Rattle.run_journal.proofs.replaying.take_entries.Given as goal

abbrev pub invariant-loop-at : goal.invariant-loop-at
invariant-loop-at l =
    (l.core.code ≡ l.initial.core.code) × (l.core.limits ≡ l.initial.core.limits)
    × IsReplayed l.initial.core.limits l.initial.core.code l.initial.core.core l.core.core l.entries l.at
