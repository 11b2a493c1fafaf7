use Rattle.std.proofs.Common.{◌≡◌, ◌++◌, drop}
use Rattle.low_names.specs.Numbers.{param_types}
use Rattle.low_parse.proofs.names.add_param_types.Given as goal

abbrev pub invariant-loop-param : goal.invariant-loop-param
invariant-loop-param l = l.list ++ param_types (drop l.param-index l.params) ≡ l.initial.list ++ param_types l.params
