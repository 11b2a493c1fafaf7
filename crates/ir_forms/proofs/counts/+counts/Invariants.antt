use Rattle.std.proofs.Common.{◌≡◌, ◌+◌, map, drop}
use Rattle.ir_forms.specs.Numbers.{operations_in, operations_inside, sum_of}
use Rattle.ir_forms.proofs.counts.+counts.Given as goal

abbrev pub invariant-count_region-loop-op : goal.invariant-count_region-loop-op
invariant-count_region-loop-op l = l.count + sum_of (map operations_in (drop l.op-index l.op-items)) ≡ l.fn.before + operations_inside l.fn.region

abbrev pub invariant-count_op-loop-region : goal.invariant-count_op-loop-region
invariant-count_op-loop-region l = l.count + sum_of (map operations_inside (drop l.region-index l.region-items)) ≡ l.fn.before + operations_in l.fn.op
