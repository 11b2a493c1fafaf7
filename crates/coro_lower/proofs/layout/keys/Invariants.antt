use Rattle.std.proofs.Common.{◌≡◌, ◌++◌, map, drop}
use Rattle.coro_lower.specs.Layout.{key}
use Rattle.coro_lower.proofs.layout.keys.Given as goal

abbrev pub invariant-loop-label : goal.invariant-loop-label
invariant-loop-label l = l.numbers.items ++ map key (drop l.label-index l.list) ≡ map key l.list
