use Rattle.std.proofs.Common.{◌≡◌, ◌<◌, ◌^◌, ◌-◌, ◌==◌, ℕ, cond, arith, subst, ap, ◌∙◌, get_or}
use Rattle.race_order.specs.Clocks.{count}
use Rattle.race_order.proofs.Trees.{double, left_tree, right_tree, root_stays, tree_grows, made_tree, sets_left, sets_right}
use Rattle.race_order.proofs.clocks.+set.Goals as goal

pub set-requires-else-key-half : goal.set-requires-else-key-half
set-requires-else-key-half t c =
    let l : 0 < c.args.depth = omega arith in
    (omega arith, (right_tree c.args.nodes.now.items c.args.depth c.args.root c.parts-left.result l (c.parts-left.ensures ∙ ap (λ n. get_or n c.args.root (0, 0)) c.deref.ensures.value) c.requires.tree, (omega arith, omega (arith, double c.args.depth l, c.pow-half.ensures))))

pub place-requires-else-key-half-clause-first : goal.place-requires-else-key-half-clause-first
place-requires-else-key-half-clause-first t c =
    let l : 0 < c.args.depth = omega arith in
    root_stays c.args.nodes.now.items c.set-else-key-half.new.nodes.items c.args.depth c.args.root l c.in_ok-made-2.ensures.tree.0 c.requires.tree

pub place-requires-else-key-half-clause-second : goal.place-requires-else-key-half-clause-second
place-requires-else-key-half-clause-second t c =
    let l : 0 < c.args.depth = omega arith in
    root_stays c.args.nodes.now.items c.set-else-key-half.new.nodes.items c.args.depth c.args.root l c.in_ok-made-2.ensures.tree.0 c.requires.tree

pub returns-in_ok-made-clause-tree : goal.returns-in_ok-made-clause-tree
returns-in_ok-made-clause-tree t c =
    let l : 0 < c.args.depth = omega arith in
    made_tree c.args.nodes.now.items c.set.new.nodes.items c.place.new.nodes.items c.args.depth c.in_ok-made.made c.parts-left.result.1 c.place.result l c.in_ok-made.ensures.tree.0 c.in_ok-made.ensures.tree.1
    (tree_grows c.args.nodes.now.items c.set.new.nodes.items _ c.parts-left.result.1 c.in_ok-made.ensures.tree.0 (right_tree c.args.nodes.now.items c.args.depth c.args.root c.parts-left.result l (c.parts-left.ensures ∙ ap (λ n. get_or n c.args.root (0, 0)) c.deref.ensures.value) c.requires.tree)) c.place.ensures

pub returns-in_ok-made-clause-value : goal.returns-in_ok-made-clause-value
returns-in_ok-made-clause-value t c =
    let l : 0 < c.args.depth = omega arith in
    sets_left c.args.nodes.now.items c.set.new.nodes.items c.place.new.nodes.items c.args.depth c.args.root c.in_ok-made.made c.args.key c.args.number c.parts-left.result c.place.result
    l (c.parts-left.ensures ∙ ap (λ n. get_or n c.args.root (0, 0)) c.deref.ensures.value) c.requires.tree (omega (arith, c.if-key-half.true, c.pow-half.ensures)) c.in_ok-made.ensures.tree.0 c.in_ok-made.ensures.tree.1 c.in_ok-made.ensures.value c.place.ensures

pub returns-in_ok-made-2-clause-tree : goal.returns-in_ok-made-2-clause-tree
returns-in_ok-made-2-clause-tree t c =
    let l : 0 < c.args.depth = omega arith in
    made_tree c.args.nodes.now.items c.set-else-key-half.new.nodes.items c.place-else-key-half.new.nodes.items c.args.depth c.parts-left.result.0 c.in_ok-made-2.made c.place-else-key-half.result l c.in_ok-made-2.ensures.tree.0
    (tree_grows c.args.nodes.now.items c.set-else-key-half.new.nodes.items _ c.parts-left.result.0 c.in_ok-made-2.ensures.tree.0 (left_tree c.args.nodes.now.items c.args.depth c.args.root c.parts-left.result l (c.parts-left.ensures ∙ ap (λ n. get_or n c.args.root (0, 0)) c.deref.ensures.value) c.requires.tree)) c.in_ok-made-2.ensures.tree.1 c.place-else-key-half.ensures

pub returns-in_ok-made-2-clause-value : goal.returns-in_ok-made-2-clause-value
returns-in_ok-made-2-clause-value t c =
    let l : 0 < c.args.depth = omega arith in
    sets_right c.args.nodes.now.items c.set-else-key-half.new.nodes.items c.place-else-key-half.new.nodes.items c.args.depth c.args.root c.in_ok-made-2.made c.args.key c.args.number c.parts-left.result c.place-else-key-half.result
    l (c.parts-left.ensures ∙ ap (λ n. get_or n c.args.root (0, 0)) c.deref.ensures.value) c.requires.tree (omega (arith, c.if-key-half.false, c.pow-half.ensures)) c.in_ok-made-2.ensures.tree.0 c.in_ok-made-2.ensures.tree.1 (subst (λ half. (k : ℕ) → k < 2 ^ (c.args.depth - 1) → count c.set-else-key-half.new.nodes.items (c.args.depth - 1) c.in_ok-made-2.made k ≡ cond (c.args.key - half == k) c.args.number (count c.args.nodes.now.items (c.args.depth - 1) c.parts-left.result.1 k)) c.pow-half.ensures c.in_ok-made-2.ensures.value) c.place-else-key-half.ensures
