use Rattle.std.proofs.Common.{◌≡◌, take, map}
use Rattle.source_meaning.specs.Values.{values_at}
use Rattle.source_meaning.specs.Steps.{awaits_for}
use Rattle.source_tasks.proofs.pending.awaits_for.Given as goal

abbrev pub invariant-loop-i : goal.invariant-loop-i
invariant-loop-i l = l.pending ≡ awaits_for l.at (map (λ x. x.0) l.params) (values_at l.env (take l.i l.names))
