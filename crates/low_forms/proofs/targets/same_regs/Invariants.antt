use Rattle.std.proofs.Common.{◌≡◌, drop}
use Rattle.low_forms.specs.Fits.{same_regs}
use Rattle.low_forms.proofs.targets.same_regs.Given as goal

abbrev pub invariant-loop-place : goal.invariant-loop-place
invariant-loop-place l = same_regs (drop l.place l.regs) (drop l.place l.others) ≡ same_regs l.regs l.others
