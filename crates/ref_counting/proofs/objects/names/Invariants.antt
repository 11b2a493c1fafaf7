use Rattle.std.proofs.Common.{◌≡◌, drop}
use Rattle.low_flow.specs.Lists.{has}
use Rattle.low_forms.specs.Assigned.{numbers}
use Rattle.ref_counting.proofs.objects.names.Given as goal

abbrev pub invariant-loop-reg : goal.invariant-loop-reg
invariant-loop-reg l = has l.number (numbers (drop l.reg-index l.regs)) ≡ has l.number (numbers l.regs)
