use Rattle.check_insert.proofs.Ended.{indexes_over}
use Rattle.check_insert.proofs.access.check_indexes.Goals as goal

pub returns : goal.returns
returns c =
    indexes_over c.args.text.now c.args.memref.now c.args.buffer c.loop-dimension.dimension c.loop-dimension.dimension _ c.args.indexes.now _ _ c.loop-dimension-test.false
    c.loop-dimension.invariant
