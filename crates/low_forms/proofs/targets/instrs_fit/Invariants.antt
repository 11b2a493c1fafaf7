use Rattle.std.proofs.Common.{◌≡◌, drop}
use Rattle.low_forms.specs.Registers.{every}
use Rattle.low_forms.specs.Fits.{inner_fits}
use Rattle.low_forms.proofs.targets.instrs_fit.Given as goal

abbrev pub invariant-loop-instr : goal.invariant-loop-instr
invariant-loop-instr l = every (inner_fits l.code l.func) (drop l.instr-index l.instrs) ≡ every (inner_fits l.code l.func) l.instrs
