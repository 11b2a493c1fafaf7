-- The calls of one region, and of one operation, more.
use Rattle.ir_verify.proofs.GraphLemmas.{op_begins, region_begins, held_next, along_next}
use Rattle.ir_verify.proofs.graph.+calls.Goals as goal

pub note_op-loop-region-init : goal.note_op-loop-region-init
note_op-loop-region-init t c =
    op_begins c.args.names.now c.args.op.now c.as_slice-region-items.result.now c.args.nest c.nest_in-inner.result c.args.calls.now c.note_call.new.calls c.in_ok-note_call.ensures c.nest_in-inner.ensures c.as_slice-region-items.ensures

pub note_op-loop-region-preserved : goal.note_op-loop-region-preserved
note_op-loop-region-preserved t c =
    held_next c.args.names.now c.as_slice-region-items.result.now c.region-item.result c.loop-region.region-index c.nest_in-inner.result c.loop-region.calls c.note_region.new.calls _
    c.loop-region-test.true c.region-item.is c.in_ok-note_region.ensures c.loop-region.invariant

pub note_region-loop-op-init : goal.note_region-loop-op-init
note_region-loop-op-init t c = region_begins c.args.names.now c.args.region.now c.as_slice-op-items.result.now c.args.nest c.args.calls.now c.as_slice-op-items.ensures

pub note_region-loop-op-preserved : goal.note_region-loop-op-preserved
note_region-loop-op-preserved t c =
    along_next c.args.names.now c.as_slice-op-items.result.now c.op-item.result c.loop-op.op-index c.args.nest c.loop-op.calls c.note_op.new.calls _
    c.loop-op-test.true c.op-item.is c.in_ok-note_op.ensures c.loop-op.invariant
