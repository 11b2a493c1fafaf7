use Rattle.std.proofs.Common.{◌≡◌, ◌++◌, map, drop}
use Rattle.coro_lower.specs.Layout.{layout}
use Rattle.coro_lower.specs.Shape.{label_block}
use Rattle.coro_lower.proofs.lower.blocks.Given as goal

abbrev pub invariant-loop-label : goal.invariant-loop-label
invariant-loop-label l = l.blocks ++ map (label_block l.func) (drop l.label-index l.label-items) ≡ map (label_block l.func) (layout l.func)
