use Rattle.std.proofs.Common.{◌≡◌, ◌++◌, drop}
use Rattle.check_insert.specs.Shape.{sizes}
use Rattle.check_insert.proofs.sizes.sizes.Given as goal

abbrev pub invariant-loop-dim : goal.invariant-loop-dim
invariant-loop-dim l = l.list ++ sizes (drop l.dim-index l.dims) l.rest ≡ sizes l.dims l.operands
