use Rattle.std.proofs.Common.{◌≡◌, ◌++◌, map, drop}
use Rattle.coro_lower.specs.Rows.{called}
use Rattle.coro_lower.proofs.rows.push_called.Given as goal

abbrev pub invariant-loop-instr : goal.invariant-loop-instr
invariant-loop-instr l = l.instrs ++ map called (drop l.instr-index l.more) ≡ l.initial.instrs ++ map called l.more
