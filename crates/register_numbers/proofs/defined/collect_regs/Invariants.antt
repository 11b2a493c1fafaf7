use Rattle.std.proofs.Common.{◌≡◌, ◌++◌, drop}
use Rattle.low_forms.specs.Assigned.{numbers}
use Rattle.register_numbers.proofs.defined.collect_regs.Given as goal

abbrev pub invariant-loop-reg : goal.invariant-loop-reg
invariant-loop-reg l = l.defined.items ++ numbers (drop l.reg-index l.regs) ≡ l.initial.defined.items ++ numbers l.regs
