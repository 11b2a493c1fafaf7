use Rattle.std.proofs.Common.{◌≡◌, ◌++◌, take, drop}
use Rattle.source_meaning.specs.Renaming.{renamed_values}
use Rattle.value_numbers.specs.Places.{place_at}
use Rattle.value_numbers.proofs.rename.rename_values.Given as goal

abbrev pub invariant-loop-i : goal.invariant-loop-i
invariant-loop-i l = take l.i l.values ++ renamed_values (place_at l.places) (drop l.i l.values) ≡ renamed_values (place_at l.places) l.initial.values
