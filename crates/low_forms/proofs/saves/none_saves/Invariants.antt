use Rattle.std.proofs.Common.{◌≡◌, drop, not}
use Rattle.low_forms.specs.Registers.{every}
use Rattle.low_forms.specs.Saves.{is_save}
use Rattle.low_forms.proofs.saves.none_saves.Given as goal

abbrev pub invariant-loop-instr : goal.invariant-loop-instr
invariant-loop-instr l = every (λ i. not (is_save i.kind)) (drop l.instr-index l.instrs) ≡ every (λ i. not (is_save i.kind)) l.instrs
