use Rattle.std.proofs.Common.{◌≡◌, ◌+◌, map, drop}
use Rattle.ir_forms.specs.Numbers.{operations_in, operations_inside, sum_of, numbered_op, numbered_region, in_turn}
use Rattle.ir_forms.proofs.InTurn.{so_far}
use Rattle.ir_forms.proofs.numbers.+numbers.Given as goal

abbrev pub invariant-number_ops-loop-i : goal.invariant-number_ops-loop-i
invariant-number_ops-loop-i l =
    goal.unvisited-number_ops-loop-i l
    × (so_far numbered_op l.i l.ops l.last ≡ in_turn (map numbered_op l.initial.ops) l.initial.last)
    × (l.last + sum_of (map operations_in (drop l.i l.ops)) ≡ l.initial.last + sum_of (map operations_in l.initial.ops))

abbrev pub invariant-number_regions-loop-i : goal.invariant-number_regions-loop-i
invariant-number_regions-loop-i l =
    goal.unvisited-number_regions-loop-i l
    × (so_far numbered_region l.i l.regions l.last ≡ in_turn (map numbered_region l.initial.regions) l.initial.last)
    × (l.last + sum_of (map operations_inside (drop l.i l.regions)) ≡ l.initial.last + sum_of (map operations_inside l.initial.regions))
