use Rattle.std.proofs.Common.{◌≡◌, drop}
use Rattle.low_forms.specs.Numbers.{regs_within}
use Rattle.low_forms.proofs.numbers.regs_within.Given as goal

abbrev pub invariant-loop-reg : goal.invariant-loop-reg
invariant-loop-reg l = regs_within l.func (drop l.reg-index l.regs) ≡ regs_within l.func l.regs
