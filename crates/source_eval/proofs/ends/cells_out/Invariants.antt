use Rattle.std.proofs.Common.{◌≡◌, ◌++◌, length}
use Rattle.source_eval.specs.Following.{cells_out}
use Rattle.source_eval.proofs.ends.cells_out.Given as goal

abbrev pub invariant-loop-number : goal.invariant-loop-number
invariant-loop-number l = l.all ++ cells_out l.fn.elem l.left ≡ cells_out l.fn.elem l.cells

abbrev pub decreases-loop-number : goal.decreases-loop-number
decreases-loop-number l = length l.left
