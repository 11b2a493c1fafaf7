use Rattle.std.proofs.Common.{◌≡◌, ◌<◌, ◌∙◌, ap, subst, arith, length, Some}
use Rattle.std.specs.Prelude.{slice_get}
use Rattle.std.proofs.lemmas.Grind.{common_steps}
use Rattle.std.proofs.lemmas.Option.{gets}
use Rattle.race_order.specs.Known.{known_by_members, greatest}
use Rattle.race_order.specs.Clocks.{Grows}
use Rattle.race_order.specs.Sights.{number_in, counted, Shows, oldest}
use Rattle.race_order.proofs.Trees.{grows_not}
use Rattle.race_order.proofs.Learn.{holds_grows, adder_tree, all_oldest}
use Rattle.race_order.proofs.Members.{members_start, join_member}
use Rattle.race_order.proofs.tasks.learn_members.Goals as goal

pub loop-at-init : goal.loop-at-init
loop-at-init g c = (grows_not c.args.nodes.now.items, members_start (number_in c.args.tasks.now.numbers) c.args.tasks.now.depth c.args.nodes.now.items c.args.raised c.args.group.now g.s c.requires.1)

pub learn_member-requires : goal.learn_member-requires
learn_member-requires g c =
    let l : c.loop-at.at < length g.s.adds = omega (arith, c.requires.0.adds_len, c.len-at-end.ensures) in
    let e : slice_get c.args.tasks.now.adds c.loop-at.at ≡ Some c.in-Some.added.now = grind (arith, common_steps) in
    let h = holds_grows g.s c.args.tasks.now c.args.nodes.now.items c.loop-at.nodes.items c.loop-at.invariant.0 c.requires.0 in
    (h, (c.loop-at.invariant.1.0, adder_tree (number_in c.args.tasks.now.numbers) c.args.tasks.now.depth c.loop-at.nodes.items g.s.adds c.args.tasks.now.adds c.loop-at.at c.in-Some.added.now l h.adds e))

pub loop-at-preserved : goal.loop-at-preserved
loop-at-preserved g c =
    let l : c.loop-at.at < length g.s.adds = omega (arith, c.requires.0.adds_len, c.len-at-end.ensures) in
    let e : slice_get c.args.tasks.now.adds c.loop-at.at ≡ Some c.in-Some.added.now = grind (arith, common_steps) in
    join_member g.s c.args.tasks.now c.args.nodes.now.items c.loop-at.nodes.items c.learn_member.new.nodes.items c.as_slice.result.now c.args.group.now c.args.raised c.loop-at.own c.in_ok-own-in-Some.own c.loop-at.at c.in-Some.added.now
    (holds_grows g.s c.args.tasks.now c.args.nodes.now.items c.loop-at.nodes.items c.loop-at.invariant.0 c.requires.0) (c.as_slice.ensures.value ∙ c.in_ok-key.ensures) l e c.loop-at.invariant c.in_ok-own-in-Some.ensures.tree c.in_ok-own-in-Some.ensures.value

pub returns : goal.returns
returns g c =
    let done : c.loop-at.at ≡ length g.s.adds = omega (arith, c.requires.0.adds_len, c.len-at-end.ensures) in
    subst (λ l. Grows c.args.nodes.now.items c.loop-at.nodes.items × Shows (number_in c.args.tasks.now.numbers) c.args.tasks.now.depth c.loop-at.nodes.items c.loop-at.own (greatest (counted (number_in c.args.tasks.now.numbers) c.args.tasks.now.depth c.args.nodes.now.items c.args.raised) (known_by_members c.args.group.now g.s l))) (ap (λ n. oldest n g.s.adds) done ∙ all_oldest g.s.adds) c.loop-at.invariant

pub unreachable-requires : goal.unreachable-requires
unreachable-requires g c = grind (arith, common_steps, gets)
