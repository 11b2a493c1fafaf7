use Rattle.std.proofs.Common.{take}
use Rattle.made_funcs.specs.Places.{Places}
use Rattle.made_funcs.proofs.values.first_places.Given as goal

abbrev pub invariant-loop-place : goal.invariant-loop-place
invariant-loop-place l = Places l.places (take l.place l.values)
