use Rattle.std.proofs.Common.{◌≡◌, ◌++◌, drop}
use Rattle.mlir_print.specs.Docs.{bytes_of}
use Rattle.low_print.specs.Printed.{instr_lines}
use Rattle.low_print.proofs.instrs.push_instrs.Given as goal

-- the text so far, and what is left, are all
abbrev pub invariant-loop-instr : goal.invariant-loop-instr
invariant-loop-instr l =
    l.text.items ++ bytes_of (instr_lines l.code l.func (drop l.instr-index l.instrs)) ≡ l.initial.text.items ++ bytes_of (instr_lines l.code l.func l.instrs)
