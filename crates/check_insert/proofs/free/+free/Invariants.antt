use Rattle.std.proofs.Common.{◌≡◌, drop, map, max}
use Rattle.check_insert.specs.Shape.{above_op, above_region, greatest}
use Rattle.check_insert.proofs.free.+free.Given as goal

abbrev pub invariant-above_op-loop-region : goal.invariant-above_op-loop-region
invariant-above_op-loop-region l = max l.most (greatest (map above_region (drop l.region-index l.region-items))) ≡ max l.least (above_op l.op)

abbrev pub invariant-above_region-loop-op : goal.invariant-above_region-loop-op
invariant-above_region-loop-op l = max l.most (greatest (map above_op (drop l.op-index l.op-items))) ≡ max l.least (above_region l.region)
