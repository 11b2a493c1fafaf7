use Rattle.std.proofs.Common.{◌≡◌, drop}
use Rattle.loop_blocks.specs.Loops.{product_from}
use Rattle.loop_blocks.proofs.loops.product.Given as goal

abbrev pub invariant-loop-number : goal.invariant-loop-number
invariant-loop-number l = product_from l.product (drop l.number-index l.more) l.made ≡ product_from l.initial.product l.more l.initial.made
