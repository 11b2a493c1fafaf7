use Rattle.std.proofs.Common.{◌≡◌, ◌++◌, drop}
use Rattle.loop_blocks.proofs.making.push_typed.Given as goal

abbrev pub invariant-loop-value : goal.invariant-loop-value
invariant-loop-value l = l.args ++ drop l.value-index l.values ≡ l.initial.args ++ l.values
