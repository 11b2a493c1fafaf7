use Rattle.std.proofs.Common.{◌≡◌, ◌++◌, drop}
use Rattle.low_forms.specs.Given.{free_of}
use Rattle.low_forms.proofs.flow.push_free.Given as goal

abbrev pub invariant-loop-reg : goal.invariant-loop-reg
invariant-loop-reg l = l.list ++ free_of l.marks (drop l.reg-index l.regs) ≡ l.initial.list ++ free_of l.marks l.regs
