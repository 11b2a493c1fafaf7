-- What is added at the end of an operation, and of a region.
use Rattle.std.proofs.Common.{◌∙◌}
use Rattle.mlir_print.proofs.Walking.{on_ok, op_text, op_last, region_text, region_last}
use Rattle.mlir_print.proofs.printer.Printer.+walk.Goals as goal

pub push_op-returns-clause-text : goal.push_op-returns-clause-text
push_op-returns-clause-text t c = on_ok c.push_op_number.result
    (op_text c.args.op.now c.args.indent.now c.args.self.now.last c.count.new.self.last c.loop-place.place c.loop-place.self.last c.as_slice-regions.result.now
    c.count.ensures.last c.as_slice-regions.ensures c.loop-place-test.false
    c.args.self.now.text.items c.count.new.self.text.items c.push_head.new.text.items c.loop-place.self.text.items c.push_op_number.new.text.items
    c.count.ensures.text c.in_ok-push_head.ensures c.loop-place.invariant.text)
    c.push_op_number.ensures

pub push_op-returns-clause-last : goal.push_op-returns-clause-last
push_op-returns-clause-last t c = on_ok c.push_op_number.result
    (λ _. op_last c.args.op.now c.args.indent.now c.args.self.now.last c.count.new.self.last c.loop-place.place c.loop-place.self.last c.as_slice-regions.result.now
    c.count.ensures.last c.as_slice-regions.ensures c.loop-place-test.false c.loop-place.invariant.last)
    c.push_op_number.ensures

pub push_region-returns-clause-text : goal.push_region-returns-clause-text
push_region-returns-clause-text t c = on_ok c.push_text-2.result
    (region_text c.args.region.now c.args.shows_params c.args.indent.now c.args.self.now.last c.loop-op.op-index c.loop-op.self.last c.as_slice-ops.result.now
    c.as_slice-ops.ensures c.loop-op-test.false
    c.args.self.now.text.items c.push_text.new.text.items c.push_block_line.new.text.items c.loop-op.self.text.items c.push_line-2.new.text.items c.push_text-2.new.text.items
    c.as_slice.result.now c.as_slice-2.result.now (c.as_slice.ensures.value ∙ c.in_ok-inner.ensures) c.as_slice-2.ensures
    c.in_ok-push_text.ensures c.in_ok-push_block_line.ensures c.loop-op.invariant.text c.in_ok-push_line-2.ensures)
    c.push_text-2.ensures

pub push_region-returns-clause-last : goal.push_region-returns-clause-last
push_region-returns-clause-last t c = on_ok c.push_text-2.result
    (λ _. region_last c.args.region.now c.args.shows_params c.args.indent.now c.args.self.now.last c.loop-op.op-index c.loop-op.self.last c.as_slice-ops.result.now
    c.as_slice-ops.ensures c.loop-op-test.false c.loop-op.invariant.last)
    c.push_text-2.ensures
