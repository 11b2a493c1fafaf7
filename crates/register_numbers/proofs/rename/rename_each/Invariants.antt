use Rattle.std.proofs.Common.{◌≡◌, ◌++◌, take, drop}
use Rattle.register_numbers.specs.FirstPlaces.{place_in}
use Rattle.register_numbers.specs.Renumbered.{renamed_regs}
use Rattle.register_numbers.proofs.rename.rename_each.Given as goal

abbrev pub invariant-loop-i : goal.invariant-loop-i
invariant-loop-i l = take l.i l.regs ++ renamed_regs (place_in l.places) (drop l.i l.regs) ≡ renamed_regs (place_in l.places) l.initial.regs
