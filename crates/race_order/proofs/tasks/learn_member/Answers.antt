use Rattle.std.proofs.Common.{◌∙◌, ap, sym}
use Rattle.ir_forms.specs.Names.{same_path}
use Rattle.race_order.specs.Sights.{number_in}
use Rattle.race_order.proofs.Trees.{tree_grows}
use Rattle.race_order.proofs.Members.{joined_member}
use Rattle.race_order.proofs.tasks.learn_member.Goals as goal

pub join-requires-then-eq-clause-second_tree : goal.join-requires-then-eq-clause-second_tree
join-requires-then-eq-clause-second_tree g c = tree_grows c.args.nodes.now.items c.join.new.nodes.items c.args.tasks.now.depth c.args.added.now.adder c.in_ok-learned.ensures.tree.0 c.requires.1.1

pub returns-in_ok-learned-clause-value : goal.returns-in_ok-learned-clause-value
returns-in_ok-learned-clause-value g c = joined_member c.args.tasks.now c.args.nodes.now.items c.join.new.nodes.items c.join-then-eq.new.nodes.items c.args.key.now c.args.added.now c.args.own c.in_ok-learned.learned c.get.result c.join-then-eq.result
    (ap (λ y. same_path y c.args.key.now) (sym c.as_slice-group.ensures.value) ∙ (sym c.eq.ensures ∙ c.if-eq.true)) (c.get.ensures ∙ ap (λ k. number_in c.args.tasks.now.clocks k) c.deref.ensures.value) c.in_ok-learned.ensures.tree.0 c.requires.1.1 c.in_ok-learned.ensures.value c.join-then-eq.ensures.value
