use Rattle.std.proofs.Common.{◌≡◌, ◌++◌, drop}
use Rattle.source_meaning.specs.Parts.{names_of}
use Rattle.value_numbers.proofs.collect.collect_params.Given as goal

abbrev pub invariant-loop-param : goal.invariant-loop-param
invariant-loop-param l = l.values.items ++ names_of (drop l.param-index l.params) ≡ l.initial.values.items ++ names_of l.params
