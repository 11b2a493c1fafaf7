use Rattle.race_order.proofs.tasks.own_clock.Given as goal

abbrev pub ghost-learn : goal.ghost-learn
ghost-learn g a = g.s
