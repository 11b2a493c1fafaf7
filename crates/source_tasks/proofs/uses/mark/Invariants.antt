use Rattle.std.proofs.Common.{◌≡◌, ◌+◌, ◌-◌, length}
use Rattle.source_tasks.specs.Uses.{marked}
use Rattle.source_tasks.proofs.uses.mark.Given as goal

-- the table is longer by marks that are missing anyway
abbrev pub invariant-loop-marks : goal.invariant-loop-marks
invariant-loop-marks l = marked l.marks.items l.place ≡ marked l.initial.marks.items l.place

abbrev pub decreases-loop-marks : goal.decreases-loop-marks
decreases-loop-marks l = l.place + 1 - length l.marks.items
