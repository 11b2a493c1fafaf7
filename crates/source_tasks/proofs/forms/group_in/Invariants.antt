use Rattle.std.proofs.Common.{◌≡◌, [], slice_get}
use Rattle.source_meaning.specs.Values.{or_else}
use Rattle.source_meaning.specs.Parts.{grouped}
use Rattle.source_tasks.proofs.forms.group_in.Given as goal

abbrev pub invariant-loop-n : goal.invariant-loop-n
invariant-loop-n l = or_else [] (slice_get (grouped l.groups l.names) l.k) ≡ or_else [] (slice_get (grouped l.initial.groups l.initial.names) l.initial.k)

abbrev pub decreases-loop-n : goal.decreases-loop-n
decreases-loop-n l = l.k
