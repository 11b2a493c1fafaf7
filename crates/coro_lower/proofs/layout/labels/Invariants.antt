use Rattle.std.proofs.Common.{◌≡◌, ◌++◌, drop}
use Rattle.coro_lower.specs.Layout.{labels}
use Rattle.coro_lower.proofs.layout.labels.Given as goal

abbrev pub invariant-loop-k : goal.invariant-loop-k
invariant-loop-k l = l.list.items ++ labels l.func l.failing l.k (drop l.k l.func.blocks) ≡ labels l.func l.failing 0 l.func.blocks
