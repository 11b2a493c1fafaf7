use Rattle.std.proofs.Common.{◌<◌, arith, ap, ◌∙◌, get_or}
use Rattle.race_order.proofs.Trees.{first_is, empty_grows, tree_grows, grows_twice, right_tree, root_stays, made_tree, joined}
use Rattle.race_order.proofs.clocks.+join.Goals as goal

pub returns-then-second-eq0-clause-value : goal.returns-then-second-eq0-clause-value
returns-then-second-eq0-clause-value t c = λ key. first_is c.args.nodes.now.items c.args.depth c.args.first c.args.second key c.if-second-eq0.true c.requires.empty

pub join-requires-2 : goal.join-requires-2
join-requires-2 t c =
    let l : 0 < c.args.depth = omega arith in (
      omega arith,
      (
        tree_grows c.args.nodes.now.items c.join.new.nodes.items _ c.parts-left.result.1 c.in_ok-made_left.ensures.tree.0 (right_tree c.args.nodes.now.items c.args.depth c.args.first c.parts-left.result l (c.parts-left.ensures ∙ ap (λ n. get_or n c.args.first (0, 0)) c.deref.ensures.value) c.requires.first_tree),
        (
          tree_grows c.args.nodes.now.items c.join.new.nodes.items _ c.parts-other_left.result.1 c.in_ok-made_left.ensures.tree.0 (right_tree c.args.nodes.now.items c.args.depth c.args.second c.parts-other_left.result l (c.parts-other_left.ensures ∙ ap (λ n. get_or n c.args.second (0, 0)) c.deref-2.ensures.value) c.requires.second_tree),
          empty_grows c.args.nodes.now.items c.join.new.nodes.items c.in_ok-made_left.ensures.tree.0 c.requires.empty,
        ),
      ),
    )

pub place-requires-clause-first : goal.place-requires-clause-first
place-requires-clause-first t c =
    let l : 0 < c.args.depth = omega arith in
    root_stays c.args.nodes.now.items c.join-2.new.nodes.items c.args.depth c.args.first l (grows_twice c.args.nodes.now.items c.join.new.nodes.items c.join-2.new.nodes.items c.in_ok-made_left.ensures.tree.0 c.in_ok-made_right.ensures.tree.0) c.requires.first_tree

pub place-requires-clause-second : goal.place-requires-clause-second
place-requires-clause-second t c =
    let l : 0 < c.args.depth = omega arith in
    root_stays c.args.nodes.now.items c.join-2.new.nodes.items c.args.depth c.args.second l (grows_twice c.args.nodes.now.items c.join.new.nodes.items c.join-2.new.nodes.items c.in_ok-made_left.ensures.tree.0 c.in_ok-made_right.ensures.tree.0) c.requires.second_tree

pub returns-clause-tree : goal.returns-clause-tree
returns-clause-tree t c =
    let l : 0 < c.args.depth = omega arith in
    made_tree c.args.nodes.now.items c.join-2.new.nodes.items c.place.new.nodes.items c.args.depth c.in_ok-made_left.made_left c.in_ok-made_right.made_right c.place.result l
    (grows_twice c.args.nodes.now.items c.join.new.nodes.items c.join-2.new.nodes.items c.in_ok-made_left.ensures.tree.0 c.in_ok-made_right.ensures.tree.0)
    (tree_grows c.join.new.nodes.items c.join-2.new.nodes.items _ c.in_ok-made_left.made_left c.in_ok-made_right.ensures.tree.0 c.in_ok-made_left.ensures.tree.1)
    c.in_ok-made_right.ensures.tree.1 c.place.ensures

pub returns-clause-value : goal.returns-clause-value
returns-clause-value t c =
    let l : 0 < c.args.depth = omega arith in
    joined c.args.nodes.now.items c.join.new.nodes.items c.join-2.new.nodes.items c.place.new.nodes.items c.args.depth c.args.first c.args.second c.in_ok-made_left.made_left c.in_ok-made_right.made_right c.parts-left.result c.parts-other_left.result c.place.result
    l (c.parts-left.ensures ∙ ap (λ n. get_or n c.args.first (0, 0)) c.deref.ensures.value) (c.parts-other_left.ensures ∙ ap (λ n. get_or n c.args.second (0, 0)) c.deref-2.ensures.value) c.requires.first_tree c.requires.second_tree c.in_ok-made_left.ensures.tree.0 c.in_ok-made_right.ensures.tree.0 c.in_ok-made_left.ensures.tree.1 c.in_ok-made_right.ensures.tree.1 c.in_ok-made_left.ensures.value c.in_ok-made_right.ensures.value c.place.ensures
