use Rattle.std.proofs.Common.{◌≡◌, ◌++◌, map, take, drop}
use Rattle.register_numbers.specs.FirstPlaces.{place_in}
use Rattle.register_numbers.specs.Renumbered.{renamed_block}
use Rattle.register_numbers.proofs.rename.rename_each_block.Given as goal

abbrev pub invariant-loop-i : goal.invariant-loop-i
invariant-loop-i l = take l.i l.blocks ++ map (renamed_block (place_in l.places)) (drop l.i l.blocks) ≡ map (renamed_block (place_in l.places)) l.initial.blocks
