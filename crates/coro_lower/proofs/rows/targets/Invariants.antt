use Rattle.std.proofs.Common.{◌≡◌, ◌++◌, map, drop}
use Rattle.coro_lower.specs.Rows.{to}
use Rattle.coro_lower.proofs.rows.targets.Given as goal

abbrev pub invariant-loop-block : goal.invariant-loop-block
invariant-loop-block l = l.made ++ map to (drop l.block-index l.blocks) ≡ map to l.blocks
