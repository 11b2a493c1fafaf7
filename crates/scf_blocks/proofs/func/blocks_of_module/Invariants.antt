use Rattle.std.proofs.Common.{◌≡◌, ◌++◌, drop, map}
use Rattle.scf_blocks.specs.Lowered.{lowered_func}
use Rattle.scf_blocks.proofs.func.blocks_of_module.Given as goal

abbrev pub invariant-loop-func : goal.invariant-loop-func
invariant-loop-func l = l.funcs ++ map (lowered_func l.program.funcs) (drop l.func-index l.func-items) ≡ map (lowered_func l.program.funcs) l.program.funcs
