use Rattle.std.proofs.Common.{◌≡◌, ◌++◌, drop}
use Rattle.made_funcs.specs.Values.{typed}
use Rattle.made_funcs.proofs.defined.push_results.Given as goal

abbrev pub invariant-loop-result : goal.invariant-loop-result
invariant-loop-result l = l.values ++ typed (drop l.result-index l.results) l.rest ≡ l.initial.values ++ typed l.results l.types
