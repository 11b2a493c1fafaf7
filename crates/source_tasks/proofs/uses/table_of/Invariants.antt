use Rattle.std.proofs.Common.{◌≡◌, [], drop}
use Rattle.source_tasks.specs.Uses.{marked_all}
use Rattle.source_tasks.proofs.uses.table_of.Given as goal

-- the marks so far, and those of the values that are left
abbrev pub invariant-loop-value : goal.invariant-loop-value
invariant-loop-value l = marked_all l.marks.items (drop l.value-index l.uses) ≡ marked_all [] l.uses
