use Rattle.std.proofs.Common.{◌∙◌}
use Rattle.made_funcs.specs.Values.{values_in, values_inside}
use Rattle.made_funcs.proofs.KeyLemmas.{params_begun, values_begun, without_turn}
use Rattle.made_funcs.proofs.captures.+removes.Goals as goal

pub remove_defined-loop-region-init : goal.remove_defined-loop-region-init
remove_defined-loop-region-init t c =
    values_begun c.args.op.now c.as_slice.result.now c.as_slice-region-items.result.now c.args.used.now.keys c.remove_results.new.used.keys
    c.as_slice.ensures c.as_slice-region-items.ensures c.remove_results.ensures

pub remove_defined-loop-region-preserved : goal.remove_defined-loop-region-preserved
remove_defined-loop-region-preserved t c =
    without_turn values_inside c.as_slice-region-items.result.now c.loop-region.region-index c.region-item.result c.loop-region.used.keys c.remove_defined_inside.new.used.keys
    c.loop-region-test.true c.region-item.is c.remove_defined_inside.ensures
    ∙ c.loop-region.invariant

pub remove_defined_inside-loop-op-init : goal.remove_defined_inside-loop-op-init
remove_defined_inside-loop-op-init t c =
    params_begun c.args.region.now c.as_slice.result.now c.as_slice-op-items.result.now c.args.used.now.keys c.remove_params.new.used.keys
    c.as_slice.ensures c.as_slice-op-items.ensures c.remove_params.ensures

pub remove_defined_inside-loop-op-preserved : goal.remove_defined_inside-loop-op-preserved
remove_defined_inside-loop-op-preserved t c =
    without_turn values_in c.as_slice-op-items.result.now c.loop-op.op-index c.op-item.result c.loop-op.used.keys c.remove_defined.new.used.keys
    c.loop-op-test.true c.op-item.is c.remove_defined.ensures
    ∙ c.loop-op.invariant
