use Rattle.std.proofs.Common.{◌≡◌, ◌≤◌, length, drop}
use Rattle.ir_forms.specs.declared.names.MadeName.{MadeName}
use Rattle.source_meaning.specs.Start.{stores_of, cells_in_all}
use Rattle.source_state.specs.Seen.{cells_of, found}
use Rattle.source_state.proofs.stores.add_arguments.Given as goal

-- the arguments from this place on are added
abbrev pub invariant-loop-at : goal.invariant-loop-at
invariant-loop-at l =
    ((b : MadeName) → cells_of l.buffers.entries b ≡ found (stores_of l.at (drop l.at l.args)) b)
    × (l.used ≡ cells_in_all (stores_of l.at (drop l.at l.args)))
    × (l.at ≤ length l.args)

abbrev pub decreases-loop-at : goal.decreases-loop-at
decreases-loop-at l = l.at
