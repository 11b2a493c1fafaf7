use Rattle.std.proofs.Common.{◌≡◌, ◌++◌, drop}
use Rattle.low_names.specs.Numbers.{param_names}
use Rattle.low_parse.proofs.names.add_params.Given as goal

abbrev pub invariant-loop-param : goal.invariant-loop-param
invariant-loop-param l = l.names ++ param_names (drop l.param-index l.params) ≡ l.initial.names ++ param_names l.params
