use Rattle.std.proofs.Common.{◌≡◌, ◌++◌, drop}
use Rattle.source_meaning.specs.Rows.{sizes}
use Rattle.step_core.specs.Shared.{numbers}
use Rattle.step_core.proofs.shared_cells.sizes.Given as goal

-- the sizes so far, and those of the dimensions that are left
abbrev pub invariant-loop-dim : goal.invariant-loop-dim
invariant-loop-dim l = l.all ++ sizes (drop l.dim-index l.dims) (numbers l.given) ≡ sizes l.dims (numbers l.initial.given)
