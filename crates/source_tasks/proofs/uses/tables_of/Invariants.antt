use Rattle.std.proofs.Common.{◌≡◌, map, take}
use Rattle.source_meaning.specs.Parts.{uses_of}
use Rattle.source_tasks.specs.Uses.{table_of}
use Rattle.source_tasks.proofs.uses.tables_of.Given as goal

abbrev pub invariant-loop-func : goal.invariant-loop-func
invariant-loop-func l = l.tables.items ≡ map (λ f. table_of (uses_of f)) (take l.func-index l.funcs)
