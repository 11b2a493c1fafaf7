use Rattle.std.proofs.Common.{◌≡◌, ◌≤◌, ◌+◌, drop, length}
use Rattle.async_objects.specs.Objects.{all_counted_down}
use Rattle.async_objects.specs.Reserved.{grown}
use Rattle.async_objects.specs.Kept.{with_kept}
use Rattle.async_objects.specs.Sound.{Fits, awaiting}
use Rattle.async_objects.proofs.effects.count_down_all.Given as goal

-- what the groups from here on make of what there is, is what all of them make of what there was
abbrev pub invariant-loop-group : goal.invariant-loop-group
invariant-loop-group l =
    (with_kept (all_counted_down l.failed (drop l.group-index l.groups) l.slots.objects).objects l.slots ≡ with_kept (all_counted_down l.failed l.groups l.initial.slots.objects).objects l.initial.slots)
    × (grown (all_counted_down l.failed (drop l.group-index l.groups) l.slots.objects).tasks l.woken ≡ grown (all_counted_down l.failed l.groups l.initial.slots.objects).tasks l.initial.woken)
    × (length (all_counted_down l.failed (drop l.group-index l.groups) l.slots.objects).tasks ≤ l.woken.room)
    × Fits (drop l.group-index l.groups) l.groups l.slots.objects l.slots.counts
    × (length l.slots.objects ≡ length l.slots.counts)
    × (length l.spare + awaiting l.slots.objects ≡ length l.initial.spare + awaiting l.initial.slots.objects)
