use Rattle.std.proofs.Common.{◌≡◌, ◌++◌, map, drop}
use Rattle.coro_lower.specs.Shape.{set_error}
use Rattle.coro_lower.proofs.blocks.set_errors.Given as goal

abbrev pub invariant-loop-object : goal.invariant-loop-object
invariant-loop-object l = l.instrs ++ map set_error (drop l.object-index l.objects) ≡ map set_error l.objects
