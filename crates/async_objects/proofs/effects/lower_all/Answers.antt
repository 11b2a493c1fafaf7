use Rattle.std.proofs.Common.{◌+◌, length, drop, subst}
use Rattle.std.proofs.lemmas.List.{drop_more}
use Rattle.async_objects.specs.Sound.{awaiting}
use Rattle.async_objects.proofs.LoopLemmas.{owed_turn, Lowering, lowering_turn}
use Rattle.async_objects.proofs.effects.lower_all.Goals as goal

pub lower_one-requires-clause-there : goal.lower_one-requires-clause-there
lower_one-requires-clause-there c = owed_turn c.args.groups.now c.loop-group.group-index _ c.loop-group.slots c.loop-group-test.true c.loop-group.invariant.3

pub loop-group-preserved : goal.loop-group-preserved
loop-group-preserved c =
    lowering_turn c.args.groups.now _ (drop (c.loop-group.group-index + 1) c.args.groups.now) c.loop-group.slots c.lower_one.new.slots c.args.slots.now c.loop-group.gone c.lower_one.new.gone c.args.gone.now (length c.loop-group.spare) (length c.lower_one.new.spare) (length c.args.spare.now + awaiting c.args.slots.now.objects)
    (subst (λ e. Lowering c.args.groups.now e c.loop-group.slots c.args.slots.now c.loop-group.gone c.args.gone.now (length c.loop-group.spare) (length c.args.spare.now + awaiting c.args.slots.now.objects)) (drop_more c.args.groups.now c.loop-group.group-index _ c.loop-group-test.true) c.loop-group.invariant)
    (owed_turn c.args.groups.now c.loop-group.group-index _ c.loop-group.slots c.loop-group-test.true c.loop-group.invariant.3)
    c.lower_one.ensures.slots c.lower_one.ensures.gone c.lower_one.ensures.places
