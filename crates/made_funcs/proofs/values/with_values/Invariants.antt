use Rattle.std.proofs.Common.{◌≡◌, ◌++◌, drop}
use Rattle.made_funcs.specs.Values.{as_values}
use Rattle.made_funcs.proofs.values.with_values.Given as goal

abbrev pub invariant-loop-value : goal.invariant-loop-value
invariant-loop-value l = l.all ++ as_values (drop l.value-index l.more) ≡ l.values ++ as_values l.more
