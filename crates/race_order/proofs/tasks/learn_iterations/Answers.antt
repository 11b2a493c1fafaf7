use Rattle.std.proofs.Common.{◌≡◌, ◌∙◌, ap, subst, sym}
use Rattle.ir_forms.specs.Names.{iteration_of}
use Rattle.race_order.specs.Clocks.{IsTree}
use Rattle.race_order.specs.Sights.{number_in, Shows}
use Rattle.race_order.proofs.Learn.{join_iteration, holds_grows}
use Rattle.race_order.proofs.tasks.learn_iterations.Goals as goal

pub join-requires-clause-second_tree : goal.join-requires-clause-second_tree
join-requires-clause-second_tree g c = subst (λ r. IsTree c.loop-iteration.nodes.items c.args.tasks.now.depth r) (sym c.get.ensures) ((holds_grows g.s c.args.tasks.now c.args.nodes.now.items c.loop-iteration.nodes.items c.loop-iteration.invariant.0 c.requires.0).clocks c.deref-in-loop-iteration.result.now).0

pub loop-iteration-preserved : goal.loop-iteration-preserved
loop-iteration-preserved g c =
    let action : c.get-action.result ≡ g.s.taken c.args.task.now = c.get-action.ensures ∙ (ap (λ k. number_in c.args.tasks.now.taken k) (c.deref.ensures.value ∙ c.in_ok-key.ensures) ∙ c.requires.0.taken c.args.task.now) in
    let key : c.deref-in-loop-iteration.result.now ≡ iteration_of c.args.task.now (g.s.taken c.args.task.now) c.loop-iteration.iteration = c.deref-in-loop-iteration.ensures.value ∙ (c.in_ok-made.ensures ∙ ap (λ k. iteration_of c.args.task.now k c.loop-iteration.iteration) action) in
    let other : c.get.result ≡ number_in c.args.tasks.now.clocks (iteration_of c.args.task.now (g.s.taken c.args.task.now) c.loop-iteration.iteration) = c.get.ensures ∙ ap (λ k. number_in c.args.tasks.now.clocks k) key in
    join_iteration (number_in c.args.tasks.now.numbers) c.args.tasks.now.depth c.args.nodes.now.items c.loop-iteration.nodes.items c.join.new.nodes.items c.args.raised c.loop-iteration.own c.get.result c.in_ok-own.own c.args.task.now (g.s.taken c.args.task.now) c.loop-iteration.iteration g.s
    c.loop-iteration.invariant.0 c.in_ok-own.ensures.tree c.loop-iteration.invariant.1
    (subst (λ r. Shows (number_in c.args.tasks.now.numbers) c.args.tasks.now.depth c.loop-iteration.nodes.items r (g.s.knows (iteration_of c.args.task.now (g.s.taken c.args.task.now) c.loop-iteration.iteration))) (sym other)
    ((holds_grows g.s c.args.tasks.now c.args.nodes.now.items c.loop-iteration.nodes.items c.loop-iteration.invariant.0 c.requires.0).clocks (iteration_of c.args.task.now (g.s.taken c.args.task.now) c.loop-iteration.iteration)))
    c.in_ok-own.ensures.value
