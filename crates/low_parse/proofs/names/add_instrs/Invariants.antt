use Rattle.std.proofs.Common.{◌≡◌, ◌++◌, drop}
use Rattle.low_names.specs.Numbers.{results_of}
use Rattle.low_parse.proofs.names.add_instrs.Given as goal

abbrev pub invariant-loop-instr : goal.invariant-loop-instr
invariant-loop-instr l = l.names ++ results_of (drop l.instr-index l.instrs) ≡ l.initial.names ++ results_of l.instrs
