use Rattle.std.proofs.Common.{◌≡◌, ◌++◌, drop}
use Rattle.low_forms.specs.Given.{free_by, with_results}
use Rattle.low_forms.proofs.flow.push_needs.Given as goal

abbrev pub invariant-loop-instr : goal.invariant-loop-instr
invariant-loop-instr l = (l.list ++ free_by l.marks.items (drop l.instr-index l.instrs) ≡ l.initial.list ++ free_by l.initial.marks.items l.instrs) × (with_results (drop l.instr-index l.instrs) l.marks.items ≡ with_results l.instrs l.initial.marks.items)
