use Rattle.std.proofs.Common.{◌≡◌, drop}
use Rattle.low_forms.specs.Given.{with_given}
use Rattle.low_forms.proofs.flow.give.Given as goal

abbrev pub invariant-loop-reg : goal.invariant-loop-reg
invariant-loop-reg l = with_given (drop l.reg-index l.regs) l.marks.items ≡ with_given l.regs l.initial.marks.items
