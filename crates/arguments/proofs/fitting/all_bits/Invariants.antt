use Rattle.std.proofs.Common.{◌≡◌, length}
use Rattle.arguments.specs.Fits.{values_fit}
use Rattle.arguments.proofs.FitLemmas.{behind}
use Rattle.arguments.proofs.fitting.all_bits.Given as goal

-- the bits so far, and those of the values that are left
abbrev pub invariant-loop-value : goal.invariant-loop-value
invariant-loop-value l = behind l.bits (values_fit l.width l.left) ≡ values_fit l.width l.values

abbrev pub decreases-loop-value : goal.decreases-loop-value
decreases-loop-value l = length l.left
