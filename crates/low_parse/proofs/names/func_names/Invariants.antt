use Rattle.std.proofs.Common.{◌≡◌, ◌++◌, drop}
use Rattle.low_names.specs.Numbers.{func_names}
use Rattle.low_parse.proofs.names.func_names.Given as goal

abbrev pub invariant-loop-func : goal.invariant-loop-func
invariant-loop-func l = l.names ++ func_names (drop l.func-index l.funcs) ≡ func_names l.funcs
