use Rattle.std.proofs.Common.{◌≡◌, drop}
use Rattle.low_forms.specs.Registers.{every}
use Rattle.low_forms.specs.Registers.{on_type, reg_type}
use Rattle.ir_verify.specs.Types.{is_index}
use Rattle.low_forms.proofs.fits.all_indices.Given as goal

abbrev pub invariant-loop-reg : goal.invariant-loop-reg
invariant-loop-reg l = every (λ r. on_type is_index (reg_type l.func r)) (drop l.reg-index l.regs) ≡ every (λ r. on_type is_index (reg_type l.func r)) l.regs
