use Rattle.std.proofs.Common.{◌≡◌, ◌++◌, map, take, drop}
use Rattle.register_numbers.specs.FirstPlaces.{place_in}
use Rattle.register_numbers.specs.Renumbered.{renamed_target}
use Rattle.register_numbers.proofs.rename.rename_each_target.Given as goal

abbrev pub invariant-loop-i : goal.invariant-loop-i
invariant-loop-i l = take l.i l.targets ++ map (renamed_target (place_in l.places)) (drop l.i l.targets) ≡ map (renamed_target (place_in l.places)) l.initial.targets
