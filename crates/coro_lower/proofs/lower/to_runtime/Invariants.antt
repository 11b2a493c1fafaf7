use Rattle.std.proofs.Common.{◌≡◌, ◌++◌, map, drop}
use Rattle.coro_lower.specs.Shape.{runtime_func}
use Rattle.coro_lower.proofs.lower.to_runtime.Given as goal

abbrev pub invariant-loop-func : goal.invariant-loop-func
invariant-loop-func l = l.funcs ++ map runtime_func (drop l.func-index l.func-items) ≡ map runtime_func l.fn.code.funcs
