use Rattle.std.proofs.Common.{◌∙◌}
use Rattle.made_funcs.specs.Captures.{uses_in, uses_inside}
use Rattle.made_funcs.proofs.KeyLemmas.{uses_begun, with_turn}
use Rattle.made_funcs.proofs.captures.+uses.Goals as goal

pub add_used-loop-region-init : goal.add_used-loop-region-init
add_used-loop-region-init t c =
    uses_begun c.args.op.now c.as_slice.result.now c.as_slice-region-items.result.now c.args.used.now.keys c.add_operands.new.used.keys
    c.as_slice.ensures c.as_slice-region-items.ensures c.in_ok-add_operands.ensures

pub add_used-loop-region-preserved : goal.add_used-loop-region-preserved
add_used-loop-region-preserved t c =
    with_turn uses_inside c.as_slice-region-items.result.now c.loop-region.region-index c.region-item.result c.loop-region.used.keys c.add_used_inside.new.used.keys
    c.loop-region-test.true c.region-item.is c.in_ok-add_used_inside.ensures
    ∙ c.loop-region.invariant

pub add_used_inside-loop-op-preserved : goal.add_used_inside-loop-op-preserved
add_used_inside-loop-op-preserved t c =
    with_turn uses_in c.as_slice-op-items.result.now c.loop-op.op-index c.op-item.result c.loop-op.used.keys c.add_used.new.used.keys
    c.loop-op-test.true c.op-item.is c.in_ok-add_used.ensures
    ∙ c.loop-op.invariant
