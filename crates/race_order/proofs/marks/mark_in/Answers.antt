use Rattle.std.proofs.Common.{◌∙◌, ap}
use Rattle.race_order.specs.Sights.{number_in}
use Rattle.race_order.proofs.Marked.{set_tree, set_value}
use Rattle.race_order.proofs.marks.mark_in.Goals as goal

pub returns-clause-trees : goal.returns-clause-trees
returns-clause-trees c = λ other. set_tree c.args.table.now c.set-2.new.self c.args.nodes.now.items c.set.new.nodes.items c.args.depth c.in_ok-made.made c.args.key.items other c.in_ok-made.ensures.tree.0 c.in_ok-made.ensures.tree.1 (c.requires.trees other) (c.in_ok-set.ensures other)

pub returns-clause-value : goal.returns-clause-value
returns-clause-value c = λ other k l. set_value c.args.table.now c.set-2.new.self c.args.nodes.now.items c.set.new.nodes.items c.args.depth c.get-root.result c.in_ok-made.made c.args.number c.args.rank c.args.key.items other k c.in_ok-made.ensures.tree.0 (c.requires.trees other)
    (c.get-root.ensures ∙ ap (number_in c.args.table.now) c.as_slice.ensures.value) (c.in_ok-set.ensures other) (c.in_ok-made.ensures.value k l)
