use Rattle.std.proofs.Common.{◌≡◌, ◌+◌, ◌<◌, ◌^◌, map, drop}
use Rattle.ir_forms.specs.Numbers.{operations_under, sum_of, numbered_func, in_turn}
use Rattle.ir_forms.proofs.InTurn.{so_far}
use Rattle.ir_forms.proofs.numbers.number_funcs.Given as goal

abbrev pub invariant-loop-i : goal.invariant-loop-i
invariant-loop-i l =
    (so_far numbered_func l.i l.funcs l.given ≡ in_turn (map numbered_func l.initial.funcs) 0)
    × (l.given + sum_of (map operations_under (drop l.i l.funcs)) < 2 ^ 32)
