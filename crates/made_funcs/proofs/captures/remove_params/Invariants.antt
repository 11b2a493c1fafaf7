use Rattle.std.proofs.Common.{◌≡◌, drop, map}
use Rattle.made_funcs.specs.Captures.{without_all}
use Rattle.made_funcs.proofs.captures.remove_params.Given as goal

abbrev pub invariant-loop-param : goal.invariant-loop-param
invariant-loop-param l = without_all l.used.keys (map (λ p. p.0.0) (drop l.param-index l.params)) ≡ without_all l.initial.used.keys (map (λ p. p.0.0) l.params)
