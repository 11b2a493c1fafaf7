use Rattle.race_order.proofs.search.is_racing.Given as goal

abbrev pub ghost-known : goal.ghost-known
ghost-known g a = g.s
