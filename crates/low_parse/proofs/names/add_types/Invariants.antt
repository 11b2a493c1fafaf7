use Rattle.std.proofs.Common.{◌≡◌, ◌++◌, drop}
use Rattle.low_parse.proofs.names.add_types.Given as goal

abbrev pub invariant-loop-ty : goal.invariant-loop-ty
invariant-loop-ty l = l.list ++ (drop l.ty-index l.types) ≡ l.initial.list ++ l.types
