use Rattle.std.proofs.Common.{◌≡◌, ◌++◌, map, take, drop}
use Rattle.std.specs.List.{All}
use Rattle.value_numbers.specs.Numbers.{HasNumbers, numbered_values}
use Rattle.value_numbers.proofs.numbers.number_funcs.Given as goal

abbrev pub invariant-loop-i : goal.invariant-loop-i
invariant-loop-i l = record {
  whole : take l.i l.funcs ++ map numbered_values (drop l.i l.funcs) ≡ map numbered_values l.initial.funcs;
  rest : drop l.i l.funcs ≡ drop l.i l.initial.funcs;
  within : All HasNumbers (take l.i l.initial.funcs);
}
