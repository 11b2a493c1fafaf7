use Rattle.std.proofs.Common.{◌≡◌, drop}
use Rattle.liveness.specs.Flow.{without_regs}
use Rattle.liveness.proofs.walk.remove_all.Given as goal

abbrev pub invariant-loop-reg : goal.invariant-loop-reg
invariant-loop-reg l = without_regs (drop l.reg-index l.regs) l.set ≡ without_regs l.regs l.initial.set
