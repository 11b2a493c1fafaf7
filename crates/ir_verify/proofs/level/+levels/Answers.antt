-- The latest level, with one region, and one operation, more.
use Rattle.std.proofs.Common.{ap}
use Rattle.ir_verify.proofs.KindLemmas.{op_begins, region_begins, held_next, along_next}
use Rattle.ir_verify.proofs.level.+levels.Goals as goal

pub level_at-loop-region-init : goal.level_at-loop-region-init
level_at-loop-region-init t c = op_begins c.args.op.now c.as_slice-region-items.result.now c.args.level c.row.result.level c.later-latest.result (ap (λ r. r.level) c.row.ensures) c.later-latest.ensures c.as_slice-region-items.ensures

pub level_at-loop-region-preserved : goal.level_at-loop-region-preserved
level_at-loop-region-preserved t c =
    held_next c.as_slice-region-items.result.now c.region-item.result c.loop-region.region-index c.loop-region.latest c.level_in-latest.result _ c.loop-region-test.true c.region-item.is c.level_in-latest.ensures c.loop-region.invariant

pub level_in-loop-op-init : goal.level_in-loop-op-init
level_in-loop-op-init t c = region_begins c.args.region.now c.as_slice-op-items.result.now c.args.level c.as_slice-op-items.ensures

pub level_in-loop-op-preserved : goal.level_in-loop-op-preserved
level_in-loop-op-preserved t c = along_next c.as_slice-op-items.result.now c.op-item.result c.loop-op.op-index c.loop-op.latest c.level_at-latest.result _ c.loop-op-test.true c.op-item.is c.level_at-latest.ensures c.loop-op.invariant
