use Rattle.std.proofs.Common.{◌≡◌, ◌++◌, ◌∷◌, [], true}
use Rattle.ir_forms.specs.Names.{iteration_of}
use Rattle.source_meaning.specs.World.{all_below, is_good}
use Rattle.source_state.specs.Seen.{ends_of, end_of}
use Rattle.source_state.proofs.ends.all_joined.Given as goal

abbrev pub invariant-loop-i : goal.invariant-loop-i
invariant-loop-i l =
    (l.path.items ≡ l.task ++ l.action ∷ [])
    × (all_below (λ i. is_good (end_of (ends_of l.ends.entries) (iteration_of l.task l.action i))) l.i ≡ true)
