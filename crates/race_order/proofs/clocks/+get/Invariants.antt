use Rattle.race_order.proofs.clocks.+get.Given as goal

abbrev pub decreases-get : goal.decreases-get
decreases-get l = l.depth
