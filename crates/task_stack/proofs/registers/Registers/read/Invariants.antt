use Rattle.std.proofs.Common.{◌≡◌, take}
use Rattle.task_stack.specs.Registers.{values_at}
use Rattle.task_stack.proofs.registers.Registers.read.Given as goal

-- what the registers so far hold
abbrev pub invariant-loop-reg : goal.invariant-loop-reg
invariant-loop-reg l = l.vals.items ≡ values_at l.self (take l.reg-index l.regs)
