use Rattle.std.proofs.Common.{◌≡◌, drop}
use Rattle.low_forms.specs.Registers.{every}
use Rattle.low_forms.specs.Numbers.{count_is_small}
use Rattle.low_forms.proofs.numbers.all_counts_small.Given as goal

abbrev pub invariant-loop-instr : goal.invariant-loop-instr
invariant-loop-instr l = every (λ i. count_is_small i.attr) (drop l.instr-index l.instrs) ≡ every (λ i. count_is_small i.attr) l.instrs
