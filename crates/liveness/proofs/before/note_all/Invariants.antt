use Rattle.std.proofs.Common.{◌≡◌, drop}
use Rattle.liveness.specs.Flow.{with_edges}
use Rattle.liveness.proofs.before.note_all.Given as goal

abbrev pub invariant-loop-to : goal.invariant-loop-to
invariant-loop-to l = with_edges l.from (drop l.to-index l.targets) l.lists.items ≡ with_edges l.from l.targets l.initial.lists.items
