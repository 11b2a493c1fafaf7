use Rattle.std.proofs.Common.{◌≡◌, ◌++◌, ◌+◌, length}
use Rattle.source_meaning.specs.Start.{buffers_out}
use Rattle.source_eval.proofs.ends.buffers_out.Given as goal

abbrev pub invariant-loop-param : goal.invariant-loop-param
invariant-loop-param l = (l.all ++ buffers_out l.shared l.place l.left ≡ buffers_out l.shared 0 l.params) × (l.place + length l.left ≡ length l.params)

abbrev pub decreases-loop-param : goal.decreases-loop-param
decreases-loop-param l = length l.left
