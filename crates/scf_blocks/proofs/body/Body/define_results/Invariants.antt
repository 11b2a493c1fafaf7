use Rattle.std.proofs.Common.{◌≡◌, drop, length, ◌++◌}
use Rattle.scf_blocks.specs.Code.{regs_from}
use Rattle.scf_blocks.specs.Tree.{typed}
use Rattle.scf_blocks.specs.Bodies.{defined}
use Rattle.scf_blocks.proofs.body.Body.define_results.Given as goal

abbrev pub invariant-loop-place : goal.invariant-loop-place
invariant-loop-place l =
    (l.list ++ regs_from (length l.self.types) (typed (drop l.place l.results) (drop l.place l.types)) ≡ regs_from (length l.initial.self.types) (typed l.results l.types))
    × (defined (typed (drop l.place l.results) (drop l.place l.types)) l.self ≡ defined (typed l.results l.types) l.initial.self)
