use Rattle.std.proofs.Common.{◌≡◌, ◌++◌, drop, map}
use Rattle.ir_forms.specs.Numbers.{joined}
use Rattle.parallel_for.specs.Shape.{in_order, split_op, split_region}
use Rattle.parallel_for.proofs.walk.+walk.Given as goal

abbrev pub invariant-split_ops-loop-op : goal.invariant-split_ops-loop-op
invariant-split_ops-loop-op l =
    (l.all ++ joined (in_order l.nest (map (split_op l.options l.taken l.called l.values) (drop l.op-index l.ops)) l.next).0 ≡ joined (in_order l.nest (map (split_op l.options l.taken l.called l.values) l.ops) l.fn.first).0)
    × (l.funcs ++ (in_order l.nest (map (split_op l.options l.taken l.called l.values) (drop l.op-index l.ops)) l.next).1 ≡ (in_order l.nest (map (split_op l.options l.taken l.called l.values) l.ops) l.fn.first).1)
    × ((in_order l.nest (map (split_op l.options l.taken l.called l.values) (drop l.op-index l.ops)) l.next).2 ≡ (in_order l.nest (map (split_op l.options l.taken l.called l.values) l.ops) l.fn.first).2)

abbrev pub invariant-split_regions-loop-region : goal.invariant-split_regions-loop-region
invariant-split_regions-loop-region l =
    (l.all ++ (in_order l.nest (map (split_region l.options l.taken l.called l.values) (drop l.region-index l.regions)) l.next).0 ≡ (in_order l.nest (map (split_region l.options l.taken l.called l.values) l.regions) l.fn.first).0)
    × (l.funcs ++ (in_order l.nest (map (split_region l.options l.taken l.called l.values) (drop l.region-index l.regions)) l.next).1 ≡ (in_order l.nest (map (split_region l.options l.taken l.called l.values) l.regions) l.fn.first).1)
    × ((in_order l.nest (map (split_region l.options l.taken l.called l.values) (drop l.region-index l.regions)) l.next).2 ≡ (in_order l.nest (map (split_region l.options l.taken l.called l.values) l.regions) l.fn.first).2)
