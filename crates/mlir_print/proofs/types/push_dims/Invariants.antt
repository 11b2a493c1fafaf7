use Rattle.std.proofs.Common.{◌≡◌, ◌++◌, drop}
use Rattle.mlir_print.specs.Types.{dims_text}
use Rattle.mlir_print.proofs.types.push_dims.Given as goal

-- the text so far, and what is left, are all
abbrev pub invariant-loop-dim : goal.invariant-loop-dim
invariant-loop-dim l = l.text.items ++ dims_text (drop l.dim-index l.dims) ≡ l.initial.text.items ++ dims_text l.dims
