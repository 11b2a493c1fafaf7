use Rattle.race_order.proofs.clocks.+join.Given as goal

abbrev pub decreases-join : goal.decreases-join
decreases-join l = l.depth
