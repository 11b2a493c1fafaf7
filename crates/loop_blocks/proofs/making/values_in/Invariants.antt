use Rattle.std.proofs.Common.{◌≡◌, ◌++◌, drop}
use Rattle.loop_blocks.specs.Made.{values_in}
use Rattle.loop_blocks.proofs.making.values_in.Given as goal

abbrev pub invariant-loop-arg : goal.invariant-loop-arg
invariant-loop-arg l = l.values ++ values_in (drop l.arg-index l.args) ≡ values_in l.args
