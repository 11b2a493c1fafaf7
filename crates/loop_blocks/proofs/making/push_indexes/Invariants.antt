use Rattle.std.proofs.Common.{◌≡◌, ◌++◌, drop}
use Rattle.loop_blocks.specs.Made.{indexes}
use Rattle.loop_blocks.proofs.making.push_indexes.Given as goal

abbrev pub invariant-loop-value : goal.invariant-loop-value
invariant-loop-value l = l.args ++ indexes (drop l.value-index l.values) ≡ l.initial.args ++ indexes l.values
