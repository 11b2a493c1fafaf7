use Rattle.std.proofs.Common.{◌≡◌, drop}
use Rattle.made_funcs.specs.Captures.{numbers, without_all}
use Rattle.made_funcs.proofs.captures.remove_results.Given as goal

abbrev pub invariant-loop-result : goal.invariant-loop-result
invariant-loop-result l = without_all l.used.keys (numbers (drop l.result-index l.results)) ≡ without_all l.initial.used.keys (numbers l.results)
