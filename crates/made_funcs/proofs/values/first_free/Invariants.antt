use Rattle.std.proofs.Common.{◌≡◌, drop, max}
use Rattle.made_funcs.specs.Values.{first_free}
use Rattle.made_funcs.proofs.values.first_free.Given as goal

abbrev pub invariant-loop-value : goal.invariant-loop-value
invariant-loop-value l = max l.free (first_free (drop l.value-index l.values)) ≡ first_free l.values
