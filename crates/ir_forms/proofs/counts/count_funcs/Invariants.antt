use Rattle.std.proofs.Common.{◌≡◌, ◌+◌, map, drop}
use Rattle.ir_forms.specs.Numbers.{operations_under, sum_of}
use Rattle.ir_forms.proofs.counts.count_funcs.Given as goal

abbrev pub invariant-loop-func : goal.invariant-loop-func
invariant-loop-func l = l.count + sum_of (map operations_under (drop l.func-index l.funcs)) ≡ sum_of (map operations_under l.funcs)
