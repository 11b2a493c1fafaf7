use Rattle.std.proofs.Common.{◌≡◌, ◌++◌, drop}
use Rattle.low_names.specs.Numbers.{types_of}
use Rattle.low_parse.proofs.names.add_instr_types.Given as goal

abbrev pub invariant-loop-instr : goal.invariant-loop-instr
invariant-loop-instr l = l.list ++ types_of (drop l.instr-index l.instrs) ≡ l.initial.list ++ types_of l.instrs
