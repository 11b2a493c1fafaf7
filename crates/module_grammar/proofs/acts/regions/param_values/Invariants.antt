use Rattle.std.proofs.Common.{◌≡◌, ◌++◌, drop, map}
use Rattle.module_grammar.specs.State.{param_value}
use Rattle.module_grammar.proofs.acts.regions.param_values.Given as goal

abbrev pub invariant-loop-param : goal.invariant-loop-param
invariant-loop-param l = l.values ++ map param_value (drop l.param-index l.params) ≡ map param_value l.params
