use Rattle.std.proofs.Common.{◌≡◌, ◌++◌, drop}
use Rattle.exec_outline.specs.Shape.{awaits_each}
use Rattle.exec_outline.proofs.awaits.awaits_each.Given as goal

abbrev pub invariant-loop-token : goal.invariant-loop-token
invariant-loop-token l = l.ops ++ awaits_each l.at (drop l.token-index l.awaited) ≡ awaits_each l.at l.awaited
