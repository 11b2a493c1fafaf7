-- One size more.
use Rattle.std.proofs.Common.{arith}
use Rattle.arguments.proofs.Products.{product_step}
use Rattle.arguments.proofs.shapes.capped_product.Goals as goal

pub loop-dim-preserved : goal.loop-dim-preserved
loop-dim-preserved c = (
  omega (arith, c.min-cells.ensures),
  product_step c.args.dims.now c.loop-dim.dim-index c.loop-dim.cells c.min-cells.result _ 16777217 (search c.loop-dim-test.true) (search c.min-cells.ensures) c.loop-dim.invariant.1,
)
