use Rattle.std.proofs.Common.{◌≤◌, ◌+◌}
use Rattle.liveness.specs.State.{IsState, to_do}
use Rattle.liveness.proofs.solve.run.Given as goal

abbrev pub invariant-loop-block : goal.invariant-loop-block
invariant-loop-block g l = record {
  state : IsState l.func l.sets.items l.waiting.items;
  visits : l.steps + to_do l.before l.sets.items l.waiting.items ≤ l.initial.steps + to_do l.before l.initial.sets.items l.initial.waiting.items;
}

abbrev pub decreases-loop-block : goal.decreases-loop-block
decreases-loop-block g l = to_do l.before l.sets.items l.waiting.items
