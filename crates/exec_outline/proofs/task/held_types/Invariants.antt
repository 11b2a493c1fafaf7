use Rattle.std.proofs.Common.{◌≡◌, ◌++◌, map, drop}
use Rattle.exec_outline.specs.Shape.{held}
use Rattle.exec_outline.proofs.task.held_types.Given as goal

abbrev pub invariant-loop-ty : goal.invariant-loop-ty
invariant-loop-ty l = l.all ++ map held (drop l.ty-index l.types) ≡ map held l.types
