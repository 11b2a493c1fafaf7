use Rattle.std.proofs.Common.{◌≡◌, drop}
use Rattle.ref_counting.specs.Objects.{with_counted}
use Rattle.ref_counting.proofs.plan.Plan.add_counted.Given as goal

abbrev pub invariant-loop-reg : goal.invariant-loop-reg
invariant-loop-reg l = with_counted l.self (drop l.reg-index l.regs) l.list.items ≡ with_counted l.self l.regs l.initial.list.items
