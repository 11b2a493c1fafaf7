use Rattle.race_order.proofs.search.pass.Given as goal

abbrev pub ghost-step : goal.ghost-step
ghost-step g a = g.s
