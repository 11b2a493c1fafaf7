use Rattle.race_order.specs.Clocks.{Grows}
use Rattle.race_order.specs.Known.{greatest, known_by_all}
use Rattle.race_order.specs.Sights.{number_in, counted, Shows}
use Rattle.race_order.proofs.tasks.learn_iterations.Given as goal

abbrev pub invariant-loop-iteration : goal.invariant-loop-iteration
invariant-loop-iteration g l = Grows l.fn.nodes.items l.nodes.items × Shows (number_in l.tasks.numbers) l.tasks.depth l.nodes.items l.own (greatest (counted (number_in l.tasks.numbers) l.tasks.depth l.fn.nodes.items l.raised) (known_by_all l.task (g.s.taken l.task) l.iteration g.s))
