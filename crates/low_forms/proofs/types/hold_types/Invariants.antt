use Rattle.std.proofs.Common.{◌≡◌, drop}
use Rattle.low_forms.specs.Registers.{hold_types}
use Rattle.low_forms.proofs.types.hold_types.Given as goal

abbrev pub invariant-loop-place : goal.invariant-loop-place
invariant-loop-place l = hold_types l.func (drop l.place l.regs) (drop l.place l.types) ≡ hold_types l.func l.regs l.types
