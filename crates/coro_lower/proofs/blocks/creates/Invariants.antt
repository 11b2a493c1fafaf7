use Rattle.std.proofs.Common.{◌≡◌, ◌++◌, map, drop}
use Rattle.coro_lower.specs.Shape.{create}
use Rattle.coro_lower.proofs.blocks.creates.Given as goal

abbrev pub invariant-loop-object : goal.invariant-loop-object
invariant-loop-object l = l.instrs ++ map create (drop l.object-index l.objects) ≡ map create l.objects
