use Rattle.std.proofs.Common.{◌≡◌, take}
use Rattle.source_meaning.specs.Values.{values_at}
use Rattle.source_meaning.specs.Steps.{awaits_each}
use Rattle.source_tasks.proofs.pending.awaits_each.Given as goal

abbrev pub invariant-loop-i : goal.invariant-loop-i
invariant-loop-i l = l.pending ≡ awaits_each l.at (values_at l.env (take l.i l.names))
