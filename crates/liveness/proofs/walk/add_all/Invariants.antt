use Rattle.std.proofs.Common.{◌≡◌, drop}
use Rattle.liveness.specs.Flow.{with_regs}
use Rattle.liveness.proofs.walk.add_all.Given as goal

abbrev pub invariant-loop-reg : goal.invariant-loop-reg
invariant-loop-reg l = with_regs (drop l.reg-index l.regs) l.set ≡ with_regs l.regs l.initial.set
