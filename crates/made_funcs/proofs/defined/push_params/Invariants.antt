use Rattle.std.proofs.Common.{◌≡◌, ◌++◌, drop}
use Rattle.made_funcs.proofs.defined.push_params.Given as goal

abbrev pub invariant-loop-param : goal.invariant-loop-param
invariant-loop-param l = l.values ++ drop l.param-index l.params ≡ l.initial.values ++ l.params
