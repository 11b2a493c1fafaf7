use Rattle.race_order.proofs.clocks.+set.Given as goal

abbrev pub decreases-set : goal.decreases-set
decreases-set l = l.depth
