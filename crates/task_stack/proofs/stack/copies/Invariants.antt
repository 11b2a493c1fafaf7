use Rattle.std.proofs.Common.{◌≡◌, take}
use Rattle.task_stack.proofs.stack.copies.Given as goal

-- those so far
abbrev pub invariant-loop-frame : goal.invariant-loop-frame
invariant-loop-frame l = l.all.items ≡ take l.frame-index l.frames
