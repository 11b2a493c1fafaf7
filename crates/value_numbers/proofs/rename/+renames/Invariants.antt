use Rattle.std.proofs.Common.{◌≡◌, ◌++◌, map, take, drop}
use Rattle.source_meaning.specs.Renaming.{renamed_ops, renamed_region}
use Rattle.value_numbers.specs.Places.{place_at}
use Rattle.value_numbers.proofs.rename.+renames.Given as goal

abbrev pub invariant-rename_ops-loop-i : goal.invariant-rename_ops-loop-i
invariant-rename_ops-loop-i l =
    goal.unvisited-rename_ops-loop-i l
    × (take l.i l.ops ++ renamed_ops (place_at l.places) (drop l.i l.ops) ≡ renamed_ops (place_at l.places) l.initial.ops)

abbrev pub invariant-rename_regions-loop-i : goal.invariant-rename_regions-loop-i
invariant-rename_regions-loop-i l =
    goal.unvisited-rename_regions-loop-i l
    × (take l.i l.regions ++ map (renamed_region (place_at l.places)) (drop l.i l.regions) ≡ map (renamed_region (place_at l.places)) l.initial.regions)
