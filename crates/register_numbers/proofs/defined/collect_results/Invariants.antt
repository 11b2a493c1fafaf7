use Rattle.std.proofs.Common.{◌≡◌, ◌++◌, drop}
use Rattle.low_forms.specs.Assigned.{assigned_by}
use Rattle.register_numbers.proofs.defined.collect_results.Given as goal

abbrev pub invariant-loop-instr : goal.invariant-loop-instr
invariant-loop-instr l = l.defined.items ++ assigned_by (drop l.instr-index l.instrs) ≡ l.initial.defined.items ++ assigned_by l.instrs
