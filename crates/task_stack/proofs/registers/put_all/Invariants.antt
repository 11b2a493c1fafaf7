use Rattle.std.proofs.Common.{◌≡◌, drop, vec_capacity}
use Rattle.task_stack.specs.Registers.{bind}
use Rattle.task_stack.proofs.registers.put_all.Given as goal

-- what is left is bound as before, and there are as many places
abbrev pub invariant-loop-i : goal.invariant-loop-i
invariant-loop-i l = record {
  rest : bind (drop l.i l.regs) (drop l.i l.vals) l.values.items ≡ bind l.regs l.vals l.initial.values.items;
  places : vec_capacity l.values ≡ vec_capacity l.initial.values;
}
