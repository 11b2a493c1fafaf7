use Rattle.std.proofs.Common.{◌≡◌, drop}
use Rattle.low_forms.specs.Registers.{like_types}
use Rattle.low_forms.proofs.types.like_types.Given as goal

abbrev pub invariant-loop-place : goal.invariant-loop-place
invariant-loop-place l = like_types l.func (drop l.place l.regs) l.other (drop l.place l.others) ≡ like_types l.func l.regs l.other l.others
