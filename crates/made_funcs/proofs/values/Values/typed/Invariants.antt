use Rattle.std.proofs.Common.{◌≡◌, ◌++◌, drop}
use Rattle.made_funcs.specs.Values.{typed_in}
use Rattle.made_funcs.proofs.values.Values.typed.Given as goal

abbrev pub invariant-loop-value : goal.invariant-loop-value
invariant-loop-value l = l.typed ++ typed_in l.self (drop l.value-index l.values) ≡ typed_in l.self l.values
