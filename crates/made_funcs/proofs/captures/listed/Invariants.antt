use Rattle.std.proofs.Common.{◌≡◌, ◌++◌}
use Rattle.made_funcs.proofs.captures.listed.Given as goal

abbrev pub invariant-loop-value : goal.invariant-loop-value
invariant-loop-value l = l.list.items ++ l.value-iterator ≡ l.used.keys
