use Rattle.std.proofs.Common.{◌≡◌, ◌++◌, length}
use Rattle.std.specs.Option.{option_map}
use Rattle.source_meaning.specs.Rows.{spans_of}
use Rattle.source_tasks.proofs.loops.spans_of.Given as goal

-- the dimensions so far, and those of the numbers that are left
abbrev pub invariant-loop-lower : goal.invariant-loop-lower
invariant-loop-lower l = option_map (λ more. l.spans ++ more) (spans_of l.lowers l.uppers l.steps) ≡ spans_of l.initial.lowers l.initial.uppers l.initial.steps

abbrev pub decreases-loop-lower : goal.decreases-loop-lower
decreases-loop-lower l = length l.lowers
