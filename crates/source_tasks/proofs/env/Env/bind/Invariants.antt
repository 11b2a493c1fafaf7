use Rattle.std.proofs.Common.{◌≡◌}
use Rattle.std.specs.Vec.Iter.{into_iter_items}
use Rattle.source_meaning.specs.Values.{bind}
use Rattle.source_tasks.proofs.env.Env.bind.Given as goal

-- the names that are left, and the values for them
abbrev pub invariant-loop-val : goal.invariant-loop-val
invariant-loop-val l = bind l.left (into_iter_items l.val-iterator) l.self ≡ bind l.fn.names l.fn.vals l.initial.self
