use Rattle.std.proofs.Common.{◌≡◌, ◌-◌, length}
use Rattle.source_meaning.specs.declared.values.Val.{Val}
use Rattle.source_meaning.specs.Values.{put}
use Rattle.source_tasks.proofs.leaf.grow.Given as goal

-- the list is longer by values that are there anyway
abbrev pub invariant-loop-values : goal.invariant-loop-values
invariant-loop-values l = (v : Val) → put l.values.items l.len v ≡ put l.initial.values.items l.len v

abbrev pub decreases-loop-values : goal.decreases-loop-values
decreases-loop-values l = l.len - length l.values.items
