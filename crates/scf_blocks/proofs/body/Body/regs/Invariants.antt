use Rattle.std.proofs.Common.{◌≡◌, drop, ◌++◌}
use Rattle.scf_blocks.specs.Code.{regs}
use Rattle.scf_blocks.proofs.body.Body.regs.Given as goal

abbrev pub invariant-loop-value : goal.invariant-loop-value
invariant-loop-value l = l.list ++ regs l.self.scope (drop l.value-index l.values) ≡ regs l.self.scope l.values
