use Rattle.std.proofs.Common.{◌≡◌, ◌++◌, drop}
use Rattle.low_parse.proofs.names.add_results.Given as goal

abbrev pub invariant-loop-name : goal.invariant-loop-name
invariant-loop-name l = l.names ++ (drop l.name-index l.results) ≡ l.initial.names ++ l.results
