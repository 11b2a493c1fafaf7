-- The operands of one region, and of one operation, more.
use Rattle.source_tasks.proofs.UseLemmas.{op_begins, region_begins, held_next, along_next}
use Rattle.source_tasks.proofs.uses.+uses.Goals as goal

pub note_op-loop-region-init : goal.note_op-loop-region-init
note_op-loop-region-init t c =
    op_begins c.args.op.now c.as_slice-region-items.result.now c.args.uses.now c.append.new.self c.in_ok-own.own (search c.in_ok-append.ensures.ok) (search c.in_ok-own.ensures) c.as_slice-region-items.ensures

pub note_op-loop-region-preserved : goal.note_op-loop-region-preserved
note_op-loop-region-preserved t c =
    held_next c.as_slice-region-items.result.now c.region-item.result c.loop-region.region-index c.loop-region.uses c.note_region.new.uses _
    c.loop-region-test.true c.region-item.is c.in_ok-note_region.ensures c.loop-region.invariant

pub note_region-loop-op-init : goal.note_region-loop-op-init
note_region-loop-op-init t c = region_begins c.args.region.now c.as_slice-op-items.result.now c.args.uses.now c.as_slice-op-items.ensures

pub note_region-loop-op-preserved : goal.note_region-loop-op-preserved
note_region-loop-op-preserved t c =
    along_next c.as_slice-op-items.result.now c.op-item.result c.loop-op.op-index c.loop-op.uses c.note_op.new.uses _
    c.loop-op-test.true c.op-item.is c.in_ok-note_op.ensures c.loop-op.invariant
