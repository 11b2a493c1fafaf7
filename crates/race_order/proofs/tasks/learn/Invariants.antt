use Rattle.race_order.proofs.tasks.learn.Given as goal

abbrev pub ghost-learn_task : goal.ghost-learn_task
ghost-learn_task g a = g.s

abbrev pub ghost-learn_members : goal.ghost-learn_members
ghost-learn_members g a = g.s

abbrev pub ghost-learn_iterations : goal.ghost-learn_iterations
ghost-learn_iterations g a = g.s
