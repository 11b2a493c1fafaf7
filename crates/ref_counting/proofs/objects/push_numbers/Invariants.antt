use Rattle.std.proofs.Common.{◌≡◌, ◌++◌, drop}
use Rattle.low_forms.specs.Assigned.{numbers}
use Rattle.ref_counting.proofs.objects.push_numbers.Given as goal

abbrev pub invariant-loop-reg : goal.invariant-loop-reg
invariant-loop-reg l = l.list.items ++ numbers (drop l.reg-index l.regs) ≡ l.initial.list.items ++ numbers l.regs
