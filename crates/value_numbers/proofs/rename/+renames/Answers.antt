use Rattle.value_numbers.proofs.Written.{op-written, region-written}
use Rattle.value_numbers.specs.Places.{place_at}
use Rattle.value_numbers.proofs.rename.+renames.Goals as goal

pub rename_op-returns : goal.rename_op-returns
rename_op-returns t c =
    op-written (place_at c.args.places.now) c.args.op.now
    c.as_mut_slice.result.now c.rename_values.new.values c.as_mut_slice-2.result.now c.rename_values-2.new.values c.as_mut_slice-3.result.now c.rename_regions.new.regions
    c.rename_values.ensures c.as_mut_slice.ensures.value c.rename_values-2.ensures c.as_mut_slice-2.ensures.value c.rename_regions.ensures c.as_mut_slice-3.ensures.value

pub rename_region-returns : goal.rename_region-returns
rename_region-returns t c =
    region-written (place_at c.args.places.now) c.args.region.now
    c.as_mut_slice.result.now c.rename_params.new.params c.as_mut_slice-2.result.now c.rename_ops.new.ops
    c.rename_params.ensures c.as_mut_slice.ensures.value c.rename_ops.ensures c.as_mut_slice-2.ensures.value
