use Rattle.std.proofs.Common.{◌≡◌, ◌++◌, drop}
use Rattle.exec_outline.specs.Shape.{awaits_for}
use Rattle.exec_outline.proofs.awaits.awaits_for.Given as goal

abbrev pub invariant-loop-value : goal.invariant-loop-value
invariant-loop-value l = l.ops ++ awaits_for l.at (drop l.value-index l.awaited) l.rest ≡ awaits_for l.at l.awaited l.params
