use Rattle.std.proofs.Common.{◌≡◌, ◌++◌, map, drop}
use Rattle.coro_lower.specs.Registers.{value_type, object_types}
use Rattle.coro_lower.proofs.registers.push_objects.Given as goal

abbrev pub invariant-loop-ty : goal.invariant-loop-ty
invariant-loop-ty l = l.types ++ map value_type (drop l.ty-index l.results) ≡ l.fn.types ++ object_types l.results
