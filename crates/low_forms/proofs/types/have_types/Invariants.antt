use Rattle.std.proofs.Common.{◌≡◌, drop}
use Rattle.low_forms.specs.Registers.{have_types}
use Rattle.low_forms.proofs.types.have_types.Given as goal

abbrev pub invariant-loop-place : goal.invariant-loop-place
invariant-loop-place l = have_types l.func (drop l.place l.regs) (drop l.place l.types) ≡ have_types l.func l.regs l.types
