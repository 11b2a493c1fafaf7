use Rattle.std.proofs.Common.{◌≡◌, ◌∙◌, ap, subst, sym}
use Rattle.race_order.specs.Clocks.{count}
use Rattle.race_order.specs.Known.{one_more, learned}
use Rattle.race_order.specs.Sights.{number_in, Shows}
use Rattle.race_order.proofs.Learn.{holds_grows}
use Rattle.race_order.proofs.Step.{raised_by, owns}
use Rattle.race_order.proofs.tasks.own_clock.Goals as goal

pub learn-requires : goal.learn-requires
learn-requires g c = (holds_grows g.s c.args.tasks.now c.args.nodes.now.items c.set.new.nodes.items c.in_ok-raised.ensures.tree.0 c.requires.0, c.in_ok-raised.ensures.tree.1)

pub returns : goal.returns
returns g c =
    let before : c.get-before.result ≡ number_in c.args.tasks.now.clocks c.args.entry.now.task = c.get-before.ensures ∙ ap (λ k. number_in c.args.tasks.now.clocks k) (c.deref.ensures.value ∙ c.in_ok-key.ensures) in
    let number : c.get-number.result ≡ number_in c.args.tasks.now.numbers c.args.entry.now.task = c.get-number.ensures ∙ ap (λ k. number_in c.args.tasks.now.numbers k) (c.deref-2.ensures.value ∙ c.in_ok-key.ensures) in
    owns (number_in c.args.tasks.now.numbers) c.args.tasks.now.depth c.args.nodes.now.items c.set.new.nodes.items c.learn.new.nodes.items c.in_ok-raised.raised c.in_ok-own.own (one_more c.args.entry.now.task (g.s.knows c.args.entry.now.task)) (learned c.args.entry.now.task c.args.entry.now.action g.s)
    c.in_ok-raised.ensures.tree.0
    (raised_by (number_in c.args.tasks.now.numbers) c.args.tasks.now.depth c.args.nodes.now.items c.set.new.nodes.items c.get-before.result c.in_ok-raised.raised c.get-number.result c.get-count.result c.args.entry.now.task (g.s.knows c.args.entry.now.task)
    c.requires.1.0 c.requires.1.1.0 (subst (λ r. Shows (number_in c.args.tasks.now.numbers) c.args.tasks.now.depth c.args.nodes.now.items r (g.s.knows c.args.entry.now.task)) (sym before) (c.requires.0.clocks c.args.entry.now.task))
    number (c.get-count.ensures ∙ ap (λ n. count n c.args.tasks.now.depth c.get-before.result c.get-number.result) c.deref-3.ensures.value) c.in_ok-raised.ensures.tree.1 c.in_ok-raised.ensures.value)
    c.in_ok-own.ensures
