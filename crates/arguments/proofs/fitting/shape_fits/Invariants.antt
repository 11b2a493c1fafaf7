use Rattle.std.proofs.Common.{◌≡◌, length}
use Rattle.arguments.specs.Fits.{shape_fits}
use Rattle.arguments.proofs.fitting.shape_fits.Given as goal

abbrev pub invariant-loop-dim : goal.invariant-loop-dim
invariant-loop-dim l = shape_fits l.dims_left l.sizes_left ≡ shape_fits l.dims l.sizes

abbrev pub decreases-loop-dim : goal.decreases-loop-dim
decreases-loop-dim l = length l.dims_left
