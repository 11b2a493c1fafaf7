use Rattle.std.proofs.Common.{◌≡◌, ◌++◌, drop}
use Rattle.low_forms.specs.Assigned.{numbers}
use Rattle.low_forms.proofs.flow.push_numbers.Given as goal

abbrev pub invariant-loop-reg : goal.invariant-loop-reg
invariant-loop-reg l = l.list ++ numbers (drop l.reg-index l.regs) ≡ l.initial.list ++ numbers l.regs
