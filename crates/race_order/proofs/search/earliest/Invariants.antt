use Rattle.std.proofs.Common.{◌≡◌, ◌<◌, ℕ, false}
use Rattle.std.specs.Prelude.{take}
use Rattle.ir_forms.specs.Names.{Path}
use Rattle.race_order.specs.Race.{entries_of, races}
use Rattle.race_order.specs.Sights.{number_in}
use Rattle.race_order.proofs.search.earliest.Given as goal

abbrev pub invariant-loop-at : goal.invariant-loop-at
invariant-loop-at g l = ((p : Path) → number_in l.ranks p ≡ entries_of p (take l.at l.trace.entries)) × ((h : ℕ) → h < l.at → races l.trace.entries h l.place ≡ false)

abbrev pub ghost-is_racing : goal.ghost-is_racing
ghost-is_racing g a = g.s
