use Rattle.std.proofs.Common.{◌≡◌, ◌++◌, drop}
use Rattle.module_grammar.specs.State.{param_names}
use Rattle.module_grammar.proofs.acts.regions.add_names.Given as goal

abbrev pub invariant-loop-param : goal.invariant-loop-param
invariant-loop-param l = l.names ++ param_names (drop l.param-index l.params) ≡ l.initial.names ++ param_names l.params
