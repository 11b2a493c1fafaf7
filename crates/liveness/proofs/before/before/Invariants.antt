use Rattle.std.proofs.Common.{◌≡◌, drop}
use Rattle.liveness.specs.Flow.{with_all, before}
use Rattle.liveness.proofs.before.before.Given as goal

abbrev pub invariant-loop-from : goal.invariant-loop-from
invariant-loop-from l = with_all l.from (drop l.from l.edges) l.lists.items ≡ before l.edges
