use Rattle.std.proofs.Common.{◌≡◌, ◌++◌, map, drop}
use Rattle.source_meaning.specs.Parts.{joined}
use Rattle.value_numbers.specs.Numbers.{values_in, values_inside}
use Rattle.value_numbers.proofs.collect.+collects.Given as goal

abbrev pub invariant-collect_op-loop-region : goal.invariant-collect_op-loop-region
invariant-collect_op-loop-region l = l.values.items ++ joined (map values_inside (drop l.region-index l.region-items)) ≡ l.fn.values.items ++ values_in l.fn.op

abbrev pub invariant-collect_region-loop-op : goal.invariant-collect_region-loop-op
invariant-collect_region-loop-op l = l.values.items ++ joined (map values_in (drop l.op-index l.op-items)) ≡ l.fn.values.items ++ values_inside l.fn.region
