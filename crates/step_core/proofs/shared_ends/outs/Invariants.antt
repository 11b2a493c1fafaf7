use Rattle.std.proofs.Common.{◌≡◌, ◌++◌, length}
use Rattle.step_core.specs.Shared.{outs}
use Rattle.step_core.proofs.shared_ends.outs.Given as goal

-- the numbers so far, and those that are left
abbrev pub invariant-loop-ty : goal.invariant-loop-ty
invariant-loop-ty l = l.all ++ outs l.types_left l.vals_left ≡ outs l.types l.vals

abbrev pub decreases-loop-ty : goal.decreases-loop-ty
decreases-loop-ty l = length l.types_left
