use Rattle.std.proofs.Common.{◌≡◌, ◌++◌, drop}
use Rattle.low_forms.specs.Assigned.{assigned_by, numbers}
use Rattle.low_forms.proofs.flow.block_assigns.Given as goal

abbrev pub invariant-loop-instr : goal.invariant-loop-instr
invariant-loop-instr l = l.list ++ assigned_by (drop l.instr-index l.instr-items) ≡ numbers l.block.params ++ assigned_by l.instr-items
