use Rattle.std.proofs.Common.{◌+◌, length, drop, subst}
use Rattle.std.proofs.lemmas.List.{drop_more}
use Rattle.async_objects.specs.Sound.{Fits, awaiting}
use Rattle.async_objects.proofs.LoopLemmas.{group_there, group_counts, Counting, counting_turn}
use Rattle.async_objects.proofs.effects.count_down_all.Goals as goal

pub count_down-requires-clause-there : goal.count_down-requires-clause-there
count_down-requires-clause-there c = group_there (drop c.loop-group.group-index c.args.groups.now) c.args.groups.now c.loop-group.slots.objects c.loop-group.slots.counts c.loop-group.group-index _ c.loop-group.invariant.3 c.loop-group-test.true

pub count_down-requires-clause-counts : goal.count_down-requires-clause-counts
count_down-requires-clause-counts c =
    group_counts _ (drop (c.loop-group.group-index + 1) c.args.groups.now) c.args.groups.now c.loop-group.slots.objects c.loop-group.slots.counts
    (subst (λ d. Fits d c.args.groups.now c.loop-group.slots.objects c.loop-group.slots.counts) (drop_more c.args.groups.now c.loop-group.group-index _ c.loop-group-test.true) c.loop-group.invariant.3)

pub loop-group-preserved : goal.loop-group-preserved
loop-group-preserved c =
    counting_turn c.args.failed c.args.groups.now _ (drop (c.loop-group.group-index + 1) c.args.groups.now) c.loop-group.slots c.count_down.new.slots c.args.slots.now c.loop-group.woken c.count_down.new.woken c.args.woken.now (length c.loop-group.spare) (length c.count_down.new.spare) (length c.args.spare.now + awaiting c.args.slots.now.objects)
    (subst (λ d. Counting c.args.failed c.args.groups.now d c.loop-group.slots c.args.slots.now c.loop-group.woken c.args.woken.now (length c.loop-group.spare) (length c.args.spare.now + awaiting c.args.slots.now.objects)) (drop_more c.args.groups.now c.loop-group.group-index _ c.loop-group-test.true) c.loop-group.invariant)
    (group_there (drop c.loop-group.group-index c.args.groups.now) c.args.groups.now c.loop-group.slots.objects c.loop-group.slots.counts c.loop-group.group-index _ c.loop-group.invariant.3 c.loop-group-test.true)
    c.count_down.ensures.slots c.count_down.ensures.woken c.count_down.ensures.places
