use Rattle.std.proofs.Common.{◌≡◌, ◌++◌, ◌+◌, length}
use Rattle.source_meaning.specs.Start.{arguments}
use Rattle.source_eval.proofs.made.arguments.Given as goal

abbrev pub invariant-loop-arg : goal.invariant-loop-arg
invariant-loop-arg l = (l.vals ++ arguments l.place l.left ≡ arguments 0 l.args) × (l.place + length l.left ≡ length l.args)

abbrev pub decreases-loop-arg : goal.decreases-loop-arg
decreases-loop-arg l = length l.left
