use Rattle.std.proofs.Common.{true, false, subst, sym}
use Rattle.race_order.specs.Clocks.{IsTree}
use Rattle.race_order.proofs.marks.is_clear.Goals as goal

pub is_below-knows_heavy-requires-clause-first_tree : goal.is_below-knows_heavy-requires-clause-first_tree
is_below-knows_heavy-requires-clause-first_tree c = subst (λ r. IsTree c.args.nodes.now c.args.depth r) (sym c.get-heavy.ensures) (c.requires.trees (c.as_slice.result.now, true))

pub is_below-knows_light-requires-clause-first_tree : goal.is_below-knows_light-requires-clause-first_tree
is_below-knows_light-requires-clause-first_tree c = subst (λ r. IsTree c.args.nodes.now c.args.depth r) (sym c.get-light.ensures) (c.requires.trees (c.as_slice-2.result.now, false))
