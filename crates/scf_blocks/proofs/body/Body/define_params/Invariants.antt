use Rattle.std.proofs.Common.{◌≡◌, drop, length, ◌++◌}
use Rattle.scf_blocks.specs.Code.{regs_from}
use Rattle.scf_blocks.specs.Bodies.{defined}
use Rattle.scf_blocks.proofs.body.Body.define_params.Given as goal

abbrev pub invariant-loop-param : goal.invariant-loop-param
invariant-loop-param l =
    (l.list ++ regs_from (length l.self.types) (drop l.param-index l.params) ≡ regs_from (length l.initial.self.types) l.params)
    × (defined (drop l.param-index l.params) l.self ≡ defined l.params l.initial.self)
