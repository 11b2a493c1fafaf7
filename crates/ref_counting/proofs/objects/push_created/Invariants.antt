use Rattle.std.proofs.Common.{◌≡◌, ◌++◌, drop}
use Rattle.ref_counting.specs.Objects.{created_by}
use Rattle.ref_counting.proofs.objects.push_created.Given as goal

abbrev pub invariant-loop-instr : goal.invariant-loop-instr
invariant-loop-instr l = l.list.items ++ created_by (drop l.instr-index l.instrs) ≡ l.initial.list.items ++ created_by l.instrs
