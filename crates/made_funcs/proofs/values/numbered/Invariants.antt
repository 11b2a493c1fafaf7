use Rattle.std.proofs.Common.{◌≡◌, ◌++◌, drop}
use Rattle.made_funcs.specs.Values.{numbered}
use Rattle.made_funcs.proofs.values.numbered.Given as goal

abbrev pub invariant-loop-ty : goal.invariant-loop-ty
invariant-loop-ty l = l.values ++ numbered l.next (drop l.ty-index l.types) ≡ numbered l.free l.types
