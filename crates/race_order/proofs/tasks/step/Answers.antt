use Rattle.race_order.proofs.Step.{holds_after}
use Rattle.race_order.proofs.tasks.step.Goals as goal

pub returns-clause-holds : goal.returns-clause-holds
returns-clause-holds g c = holds_after c.args.entry.now g.s c.args.tasks.now c.keep.new.tasks c.args.nodes.now.items c.own_clock.new.nodes.items c.in_ok-own.own c.requires.0 c.in_ok-own.ensures.0 c.in_ok-own.ensures.1 c.in_ok-keep.ensures
