use Rattle.std.proofs.Common.{◌≡◌, ◌++◌, map, drop}
use Rattle.ref_counting.specs.Shape.{counted_func}
use Rattle.ref_counting.proofs.pass.counted_code.Given as goal

abbrev pub invariant-loop-number : goal.invariant-loop-number
invariant-loop-number g l = l.funcs ++ map counted_func (drop l.number l.code.funcs) ≡ map counted_func l.code.funcs
