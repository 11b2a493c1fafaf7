use Rattle.std.proofs.Common.{◌≡◌, ◌++◌, ◌-◌}
use Rattle.liveness.specs.Flow.{countdown}
use Rattle.liveness.proofs.solve.all_blocks.Given as goal

abbrev pub invariant-loop-behind : goal.invariant-loop-behind
invariant-loop-behind l = l.waiting.items ++ countdown (l.len - l.behind) ≡ countdown l.len
