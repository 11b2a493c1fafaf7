use Rattle.std.proofs.Common.{◌≡◌, drop, false}
use Rattle.low_forms.specs.Saves.{none_alone}
use Rattle.low_forms.proofs.saves.none_alone.Given as goal

abbrev pub invariant-loop-instr : goal.invariant-loop-instr
invariant-loop-instr l = none_alone l.saved l.resumed (drop l.instr-index l.instrs) l.term ≡ none_alone false false l.instrs l.term
