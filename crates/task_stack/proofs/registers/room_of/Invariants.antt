use Rattle.std.proofs.Common.{◌≡◌, max, drop}
use Rattle.task_stack.specs.Room.{room_of}
use Rattle.task_stack.proofs.registers.room_of.Given as goal

-- the room of those so far, and of those that are left
abbrev pub invariant-loop-reg : goal.invariant-loop-reg
invariant-loop-reg l = max l.room (room_of (drop l.reg-index l.regs)) ≡ room_of l.regs
