use Rattle.std.proofs.Common.{◌≡◌}
use Rattle.exec_outline.specs.Shape.{tokens}
use Rattle.exec_outline.proofs.awaits.tokens.Given as goal

abbrev pub invariant-loop-turn : goal.invariant-loop-turn
invariant-loop-turn l = l.types ≡ tokens l._turn
