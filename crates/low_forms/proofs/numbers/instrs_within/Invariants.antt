use Rattle.std.proofs.Common.{◌≡◌, drop}
use Rattle.low_forms.specs.Registers.{every}
use Rattle.low_forms.specs.Numbers.{instr_within}
use Rattle.low_forms.proofs.numbers.instrs_within.Given as goal

abbrev pub invariant-loop-instr : goal.invariant-loop-instr
invariant-loop-instr l = every (instr_within l.code l.func) (drop l.instr-index l.instrs) ≡ every (instr_within l.code l.func) l.instrs
