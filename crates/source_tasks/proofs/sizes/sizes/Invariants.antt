use Rattle.std.proofs.Common.{◌≡◌, ◌++◌, drop}
use Rattle.source_meaning.specs.Rows.{sizes}
use Rattle.source_tasks.proofs.sizes.sizes.Given as goal

-- the sizes so far, and those of the dimensions that are left
abbrev pub invariant-loop-dim : goal.invariant-loop-dim
invariant-loop-dim l = l.all ++ sizes (drop l.dim-index l.dims) l.given ≡ sizes l.dims l.initial.given
