use Rattle.race_order.proofs.tasks.step.Given as goal

abbrev pub ghost-own_clock : goal.ghost-own_clock
ghost-own_clock g a = g.s
