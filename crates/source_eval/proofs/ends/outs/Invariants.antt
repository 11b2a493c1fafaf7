use Rattle.std.proofs.Common.{◌≡◌, ◌++◌, length}
use Rattle.source_meaning.specs.Start.{outs}
use Rattle.source_eval.proofs.ends.outs.Given as goal

abbrev pub invariant-loop-ty : goal.invariant-loop-ty
invariant-loop-ty l = l.all ++ outs l.types_left l.vals_left ≡ outs l.types l.vals

abbrev pub decreases-loop-ty : goal.decreases-loop-ty
decreases-loop-ty l = length l.types_left
