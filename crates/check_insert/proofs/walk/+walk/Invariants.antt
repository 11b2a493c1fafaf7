use Rattle.std.proofs.Common.{◌≡◌, ◌++◌, drop, map}
use Rattle.ir_forms.specs.Numbers.{in_turn, joined}
use Rattle.check_insert.specs.Shape.{checked_op, checked_region}
use Rattle.check_insert.proofs.walk.+walk.Given as goal

abbrev pub invariant-checked_ops-loop-op : goal.invariant-checked_ops-loop-op
invariant-checked_ops-loop-op l =
    (l.all ++ joined (in_turn (map checked_op (drop l.op-index l.ops)) l.last).0 ≡ joined (in_turn (map checked_op l.ops) l.free).0)
    × ((in_turn (map checked_op (drop l.op-index l.ops)) l.last).1 ≡ (in_turn (map checked_op l.ops) l.free).1)

abbrev pub invariant-checked_regions-loop-region : goal.invariant-checked_regions-loop-region
invariant-checked_regions-loop-region l =
    (l.all ++ (in_turn (map checked_region (drop l.region-index l.regions)) l.last).0 ≡ (in_turn (map checked_region l.regions) l.free).0)
    × ((in_turn (map checked_region (drop l.region-index l.regions)) l.last).1 ≡ (in_turn (map checked_region l.regions) l.free).1)
