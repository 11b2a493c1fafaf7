use Rattle.std.proofs.Common.{◌≡◌, ◌++◌, drop, map}
use Rattle.exec_outline.specs.Shape.{in_order, outlined_op, outlined_region}
use Rattle.exec_outline.proofs.walk.+walk.Given as goal

abbrev pub invariant-outlined_ops-loop-op : goal.invariant-outlined_ops-loop-op
invariant-outlined_ops-loop-op l =
    (l.all ++ (in_order (map (outlined_op l.taken l.values) (drop l.op-index l.ops)) l.next).0 ≡ (in_order (map (outlined_op l.taken l.values) l.ops) l.first).0)
    × (l.tasks ++ (in_order (map (outlined_op l.taken l.values) (drop l.op-index l.ops)) l.next).1 ≡ (in_order (map (outlined_op l.taken l.values) l.ops) l.first).1)

abbrev pub invariant-outlined_regions-loop-region : goal.invariant-outlined_regions-loop-region
invariant-outlined_regions-loop-region l =
    (l.all ++ (in_order (map (outlined_region l.taken l.values) (drop l.region-index l.regions)) l.next).0 ≡ (in_order (map (outlined_region l.taken l.values) l.regions) l.first).0)
    × (l.tasks ++ (in_order (map (outlined_region l.taken l.values) (drop l.region-index l.regions)) l.next).1 ≡ (in_order (map (outlined_region l.taken l.values) l.regions) l.first).1)
