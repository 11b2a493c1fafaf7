use Rattle.race_order.specs.Sights.{number_in, AreNumbered}
use Rattle.race_order.proofs.search.number_tasks.Given as goal

abbrev pub invariant-loop-place : goal.invariant-loop-place
invariant-loop-place l = AreNumbered l.trace.entries l.place (number_in l.numbers)
