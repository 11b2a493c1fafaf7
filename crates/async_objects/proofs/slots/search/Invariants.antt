use Rattle.std.proofs.Common.{◌-◌, ◌<◌, ◌≤◌, length}
use Rattle.async_objects.specs.Slots.{place_in}
use Rattle.async_objects.proofs.slots.search.Given as goal

-- where there is such a slot it stands from here on, and before there
abbrev pub invariant-loop-low : goal.invariant-loop-low
invariant-loop-low l = (place_in l.slots l.number < length l.slots → (l.low ≤ place_in l.slots l.number) × (place_in l.slots l.number < l.high)) × (l.high ≤ length l.slots) × (l.low < l.high)

abbrev pub decreases-loop-low : goal.decreases-loop-low
decreases-loop-low l = l.high - l.low
