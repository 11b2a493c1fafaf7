use Rattle.std.proofs.Common.{◌≡◌, ◌++◌, ◌+◌, drop}
use Rattle.coro_lower.specs.Shape.{gives}
use Rattle.coro_lower.proofs.plan.Plan.push_gives.Given as goal

abbrev pub invariant-loop-k : goal.invariant-loop-k
invariant-loop-k l = l.instrs ++ gives l.self (l.k + 1) (drop l.k l.values) ≡ l.initial.instrs ++ gives l.self 1 l.values
