use Rattle.std.proofs.Common.{◌≡◌, ◌++◌, map, take, drop}
use Rattle.register_numbers.specs.FirstPlaces.{place_in}
use Rattle.register_numbers.specs.Renumbered.{renamed_instr}
use Rattle.register_numbers.proofs.rename.rename_each_instr.Given as goal

abbrev pub invariant-loop-i : goal.invariant-loop-i
invariant-loop-i l = take l.i l.instrs ++ map (renamed_instr (place_in l.places)) (drop l.i l.instrs) ≡ map (renamed_instr (place_in l.places)) l.initial.instrs
