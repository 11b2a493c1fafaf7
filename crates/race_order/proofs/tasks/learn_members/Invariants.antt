use Rattle.race_order.specs.Clocks.{Grows}
use Rattle.race_order.specs.Known.{greatest, known_by_members}
use Rattle.race_order.specs.Sights.{number_in, counted, Shows, oldest}
use Rattle.race_order.proofs.tasks.learn_members.Given as goal

abbrev pub ghost-learn_member : goal.ghost-learn_member
ghost-learn_member g a = g.s

abbrev pub invariant-loop-at : goal.invariant-loop-at
invariant-loop-at g l = Grows l.fn.nodes.items l.nodes.items × Shows (number_in l.tasks.numbers) l.tasks.depth l.nodes.items l.own (greatest (counted (number_in l.tasks.numbers) l.tasks.depth l.fn.nodes.items l.raised) (known_by_members l.group g.s (oldest l.at g.s.adds)))
