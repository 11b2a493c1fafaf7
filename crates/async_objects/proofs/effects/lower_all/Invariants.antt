use Rattle.std.proofs.Common.{◌≡◌, ◌≤◌, ◌+◌, [], drop, length}
use Rattle.async_objects.specs.Counts.{all_less, freed, live}
use Rattle.async_objects.specs.Reserved.{grown}
use Rattle.async_objects.specs.Kept.{all_lowered}
use Rattle.async_objects.specs.Sound.{Fits, awaiting}
use Rattle.async_objects.proofs.effects.lower_all.Given as goal

-- what the groups from here on make of what there is, is what all of them make of what there was
abbrev pub invariant-loop-group : goal.invariant-loop-group
invariant-loop-group l =
    (all_lowered (drop l.group-index l.groups) l.slots ≡ all_lowered l.groups l.initial.slots)
    × (grown (freed (all_less (drop l.group-index l.groups)) l.slots.counts) l.gone ≡ grown (freed (all_less l.groups) l.initial.slots.counts) l.initial.gone)
    × (length (freed (all_less (drop l.group-index l.groups)) l.slots.counts) ≤ l.gone.room)
    × Fits [] (drop l.group-index l.groups) l.slots.objects l.slots.counts
    × (length l.slots.objects ≡ length l.slots.counts)
    × (length l.spare + awaiting l.slots.objects ≡ length l.initial.spare + awaiting l.initial.slots.objects)
    × (live l.slots.counts ≤ live l.initial.slots.counts)
