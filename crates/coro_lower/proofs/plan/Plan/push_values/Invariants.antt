use Rattle.std.proofs.Common.{◌≡◌, ◌++◌, ◌+◌, drop}
use Rattle.coro_lower.specs.Registers.{made_from, values}
use Rattle.coro_lower.proofs.plan.Plan.push_values.Given as goal

abbrev pub invariant-loop-k : goal.invariant-loop-k
invariant-loop-k l = l.values.items ++ made_from l.self (l.k + 1) (drop l.k l.self.results) ≡ l.initial.values.items ++ values l.self
