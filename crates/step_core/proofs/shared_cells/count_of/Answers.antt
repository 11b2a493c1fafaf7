use Rattle.std.proofs.Common.{arith}
use Rattle.step_core.proofs.Products.{product_step}
use Rattle.step_core.proofs.shared_cells.count_of.Goals as goal

pub loop-dim-preserved : goal.loop-dim-preserved
loop-dim-preserved c = (
  omega (arith, c.min-cells.ensures),
  product_step c.args.dims.now c.loop-dim.dim-index c.loop-dim.cells c.min-cells.result _ 4294967296 (search c.loop-dim-test.true) (search c.min-cells.ensures) c.loop-dim.invariant.1,
)
