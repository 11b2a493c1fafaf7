use Rattle.std.proofs.Common.{◌≡◌, ◌++◌, take, drop}
use Rattle.source_meaning.specs.Renaming.{renamed_params}
use Rattle.value_numbers.specs.Places.{place_at}
use Rattle.value_numbers.proofs.rename.rename_params.Given as goal

abbrev pub invariant-loop-i : goal.invariant-loop-i
invariant-loop-i l = take l.i l.params ++ renamed_params (place_at l.places) (drop l.i l.params) ≡ renamed_params (place_at l.places) l.initial.params
