use Rattle.std.proofs.Common.{◌≡◌, ◌++◌, drop, map}
use Rattle.check_insert.specs.Shape.{checked_func}
use Rattle.check_insert.proofs.walk.checked.Given as goal

abbrev pub invariant-loop-func : goal.invariant-loop-func
invariant-loop-func l = l.funcs ++ map checked_func (drop l.func-index l.func-items) ≡ map checked_func l.program.funcs
