use Rattle.std.proofs.Common.{◌≡◌, ◌++◌, map, drop}
use Rattle.coro_lower.specs.Layout.{go_from, goes}
use Rattle.coro_lower.proofs.layout.goes.Given as goal

abbrev pub invariant-loop-block : goal.invariant-loop-block
invariant-loop-block l = l.list.items ++ map (λ b. go_from b.term.instr.kind b.term.targets) (drop l.block-index l.block-items) ≡ goes l.func
