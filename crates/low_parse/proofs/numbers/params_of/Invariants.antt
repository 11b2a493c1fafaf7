use Rattle.std.proofs.Common.{◌≡◌, ◌++◌, drop}
use Rattle.low_names.specs.Numbers.{params_of}
use Rattle.low_parse.specs.Scopes.{scope}
use Rattle.low_parse.proofs.numbers.params_of.Given as goal

abbrev pub invariant-loop-param : goal.invariant-loop-param
invariant-loop-param l = l.regs ++ params_of (scope l.seen) (drop l.param-index l.params) ≡ params_of (scope l.seen) l.params
