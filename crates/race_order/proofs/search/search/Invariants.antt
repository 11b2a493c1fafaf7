use Rattle.std.proofs.Common.{◌≡◌, ◌<◌, ℕ, false}
use Rattle.race_order.specs.Race.{races}
use Rattle.race_order.specs.Marks.{AreMarked}
use Rattle.race_order.specs.Sights.{number_in, sight, Holds}
use Rattle.race_order.proofs.search.search.Given as goal

abbrev pub ghost-pass : goal.ghost-pass
ghost-pass a = sight a.trace.now.entries a.place

abbrev pub invariant-loop-place : goal.invariant-loop-place
invariant-loop-place l = Holds (sight l.trace.entries l.place) l.tasks l.nodes.items × (l.tasks.depth ≡ l.fn.tasks.depth) × (l.tasks.numbers ≡ l.fn.tasks.numbers) × AreMarked l.trace.entries l.place (number_in l.tasks.numbers) l.tasks.depth l.nodes.items l.marks × ((h k : ℕ) → h < k → k < l.place → races l.trace.entries h k ≡ false)
