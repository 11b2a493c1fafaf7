use Rattle.std.proofs.Common.{◌≡◌, ◌++◌, drop}
use Rattle.loop_blocks.specs.Made.{types_in}
use Rattle.loop_blocks.proofs.making.types_in.Given as goal

abbrev pub invariant-loop-arg : goal.invariant-loop-arg
invariant-loop-arg l = l.types ++ types_in (drop l.arg-index l.args) ≡ types_in l.args
