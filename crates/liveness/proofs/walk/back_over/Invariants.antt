use Rattle.std.proofs.Common.{◌≡◌, ◌-◌, length, drop}
use Rattle.liveness.specs.Flow.{back_over}
use Rattle.liveness.proofs.walk.back_over.Given as goal

abbrev pub invariant-loop-behind : goal.invariant-loop-behind
invariant-loop-behind l = l.set ≡ back_over (drop (length l.instrs - l.behind) l.instrs) l.initial.set
